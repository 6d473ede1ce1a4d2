use Rattle.std.proofs.Common.{◌≡◌, drop, length}
use Rattle.clf_syntax.specs.Modes.{same_modes}
use Rattle.trace_equal.proofs.modes.are_same_modes.Given as goal

abbrev pub invariant-loop-i : goal.invariant-loop-i
invariant-loop-i l = (length l.left ≡ length l.right) × (same_modes l.left l.right ≡ same_modes (drop l.i l.left) (drop l.i l.right))
