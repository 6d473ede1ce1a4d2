-- The wholes are the same exactly where the rests are.
use Rattle.std.proofs.Common.{◌≡◌, ◌↔◌, drop, length, map}
use Rattle.clf_syntax.specs.Plain.{plain_elim, plain_step, plain_entry}
use Rattle.clf_syntax.proofs.identity.+same.Given as goal

abbrev pub invariant-same_spine-loop-i : goal.invariant-same_spine-loop-i
invariant-same_spine-loop-i l = (length l.left ≡ length l.right) × ((map plain_elim l.left ≡ map plain_elim l.right) ↔ (map plain_elim (drop l.i l.left) ≡ map plain_elim (drop l.i l.right)))

abbrev pub invariant-same_steps-loop-i : goal.invariant-same_steps-loop-i
invariant-same_steps-loop-i l = (length l.left ≡ length l.right) × ((map plain_step l.left ≡ map plain_step l.right) ↔ (map plain_step (drop l.i l.left) ≡ map plain_step (drop l.i l.right)))

abbrev pub invariant-same_tuple-loop-i : goal.invariant-same_tuple-loop-i
invariant-same_tuple-loop-i l = (length l.left ≡ length l.right) × ((map plain_entry l.left ≡ map plain_entry l.right) ↔ (map plain_entry (drop l.i l.left) ≡ map plain_entry (drop l.i l.right)))
