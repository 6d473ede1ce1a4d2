-- What is noted so far and the heads of what is left are what was there and the heads of all.
use Rattle.std.proofs.Common.{◌≡◌, ◌++◌, drop, map}
use Rattle.std.specs.List.{flat_map}
use Rattle.clf_syntax.specs.PlainTypes.{plain_tele_entry}
use Rattle.celf_front.specs.OccurringParts.{heads_in_tele_entry}
use Rattle.celf_front.proofs.occurring_types.+note_type.Given as goal

abbrev pub invariant-note_entries-loop-entry : goal.invariant-note_entries-loop-entry
invariant-note_entries-loop-entry l = l.heads ++ flat_map heads_in_tele_entry (map plain_tele_entry (drop l.entry-index l.entries)) ≡ l.fn.heads ++ flat_map heads_in_tele_entry (map plain_tele_entry l.entries)
