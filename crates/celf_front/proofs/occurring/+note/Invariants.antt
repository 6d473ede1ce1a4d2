-- What is noted so far and the heads of what is left are what was there and the heads of all.
use Rattle.std.proofs.Common.{◌≡◌, ◌++◌, drop, map}
use Rattle.std.specs.List.{flat_map}
use Rattle.clf_syntax.specs.Plain.{plain_elim, plain_entry, plain_step}
use Rattle.celf_front.specs.OccurringParts.{heads_in_elimination, heads_in_entry, heads_in_step}
use Rattle.celf_front.proofs.occurring.+note.Given as goal

abbrev pub invariant-note_spine-loop-act : goal.invariant-note_spine-loop-act
invariant-note_spine-loop-act l = l.heads ++ flat_map heads_in_elimination (map plain_elim (drop l.act-index l.spine)) ≡ l.fn.heads ++ flat_map heads_in_elimination (map plain_elim l.spine)

abbrev pub invariant-note_steps-loop-step : goal.invariant-note_steps-loop-step
invariant-note_steps-loop-step l = l.heads ++ flat_map heads_in_step (map plain_step (drop l.step-index l.steps)) ≡ l.fn.heads ++ flat_map heads_in_step (map plain_step l.steps)

abbrev pub invariant-note_tuple-loop-entry : goal.invariant-note_tuple-loop-entry
invariant-note_tuple-loop-entry l = l.heads ++ flat_map heads_in_entry (map plain_entry (drop l.entry-index l.tuple)) ≡ l.fn.heads ++ flat_map heads_in_entry (map plain_entry l.tuple)
