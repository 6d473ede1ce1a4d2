-- The modes before this place are the same.
use Rattle.std.proofs.Common.{◌≡◌, ◌≤◌, ◌-◌, drop, length}
use Rattle.clf_syntax.specs.declared.tree.Tele.{out-Tele}
use Rattle.clf_decision.specs.Checking.{first_other_mode}
use Rattle.clf_kernel.proofs.Patterns.{wanted_modes}
use Rattle.clf_kernel.proofs.pattern.same_pattern.Given as goal

abbrev pub invariant-loop-at : goal.invariant-loop-at
invariant-loop-at l = (l.at ≤ length l.fn.modes)
    × (first_other_mode (wanted_modes (out-Tele l.fn.tele).entries) l.fn.modes ≡ first_other_mode (wanted_modes (drop l.at (out-Tele l.fn.tele).entries)) (drop l.at l.fn.modes))

abbrev pub decreases-loop-at : goal.decreases-loop-at
decreases-loop-at l = length l.fn.modes - l.at
