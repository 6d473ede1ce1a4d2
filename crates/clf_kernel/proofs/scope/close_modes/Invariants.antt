-- The variables after this number are closed.
use Rattle.std.proofs.Common.{◌≡◌, ℕ, ◌≤◌, ◌+◌, take, length}
use Rattle.clf_kernel.specs.Answers.{plain_left}
use Rattle.clf_kernel.specs.Judge.{HasMarks}
use Rattle.clf_kernel.specs.Trail.{closed_modes}
use Rattle.clf_kernel.proofs.scope.close_modes.Given as goal

abbrev pub invariant-loop-at : goal.invariant-loop-at
invariant-loop-at l = (l.at ≤ length l.fn.modes)
    × ((n : ℕ) → HasMarks (n + length l.fn.modes) l.fn.left.row → HasMarks (n + l.at) l.left.row
    × (closed_modes l.fn.modes n (plain_left l.fn.left) ≡ closed_modes (take l.at l.fn.modes) n (plain_left l.left)))

abbrev pub decreases-loop-at : goal.decreases-loop-at
decreases-loop-at l = l.at
