-- The steps after this number are closed.
use Rattle.std.proofs.Common.{◌≡◌, ℕ, ◌≤◌, ◌+◌, take, length}
use Rattle.clf_decision.specs.Outcome.{passed}
use Rattle.clf_kernel.specs.Answers.{plain_left}
use Rattle.clf_kernel.specs.Judge.{HasMarks}
use Rattle.clf_kernel.specs.Trail.{closed_steps, opened_by, opened_width}
use Rattle.clf_kernel.proofs.trail.close_steps.Given as goal

abbrev pub invariant-loop-place : goal.invariant-loop-place
invariant-loop-place l = (l.place ≤ length l.fn.opened)
    × ((n : ℕ) → HasMarks (opened_width (opened_by l.fn.opened) + n) l.fn.left.row → HasMarks (opened_width (opened_by (take l.place l.fn.opened)) + n) l.left.row
    × (closed_steps n (opened_by l.fn.opened) (passed (plain_left l.fn.left)) ≡ closed_steps n (opened_by (take l.place l.fn.opened)) (passed (plain_left l.left))))

abbrev pub decreases-loop-place : goal.decreases-loop-place
decreases-loop-place l = l.place
