use Rattle.std.proofs.Common.{◌≡◌, ◌+◌, ◌*◌, ◌++◌, map, drop}
use Rattle.std.specs.List.{list_all}
use Rattle.clf_syntax.specs.Plain.{plain_elim, plain_entry}
use Rattle.clf_syntax.specs.PlainSimple.{plain_simple, plain_simple_entry, simple_telescope_of}
use Rattle.clf_syntax.specs.Renumbered.{fits_elimination, fits_entry}
use Rattle.clf_simple.specs.Noted.{lambdas, eliminations, variable_entries}
use Rattle.clf_simple.specs.Roots.{plain_noted, plain_notes}
use Rattle.clf_simple.specs.Weight.{weight, entries_weight, note_weight, notes_weight}
use Rattle.clf_simple.proofs.expansion.+expand.Given as goal

abbrev pub decreases-expand : goal.decreases-expand
decreases-expand l = (weight (plain_simple l.ty.now) + notes_weight (plain_notes l.noted.items)) * 5 + 3

abbrev pub decreases-expand_function : goal.decreases-expand_function
decreases-expand_function l = (weight (plain_simple l.dom.now) + weight (plain_simple l.cod.now) + 2 + notes_weight (plain_notes l.noted.items)) * 5 + 2

abbrev pub decreases-expand_pair : goal.decreases-expand_pair
decreases-expand_pair l = (weight (plain_simple l.left.now) + weight (plain_simple l.right.now) + 2 + notes_weight (plain_notes l.noted.items)) * 5 + 2

abbrev pub decreases-expand_monad : goal.decreases-expand_monad
decreases-expand_monad l = (entries_weight (simple_telescope_of (map plain_simple_entry l.entries.now)) + 1 + notes_weight (plain_notes l.noted.now)) * 5 + 2

abbrev pub decreases-variables : goal.decreases-variables
decreases-variables l = entries_weight (simple_telescope_of (map plain_simple_entry l.entries.now)) * 5 + 2

abbrev pub decreases-variable_entry : goal.decreases-variable_entry
decreases-variable_entry l = weight (plain_simple_entry l.entry.now).1 * 5 + 5

abbrev pub decreases-expand_variable : goal.decreases-expand_variable
decreases-expand_variable l = weight (plain_simple l.ty.now) * 5 + 4

abbrev pub decreases-write : goal.decreases-write
decreases-write l = notes_weight (plain_notes l.noted.now) * 5 + 2

abbrev pub decreases-write_noted : goal.decreases-write_noted
decreases-write_noted l = notes_weight (plain_notes l.noted.now) * 5 + 1

abbrev pub decreases-write_elimination : goal.decreases-write_elimination
decreases-write_elimination l = note_weight (plain_noted l.note.now) * 5

abbrev pub invariant-write_noted-loop-note : goal.invariant-write_noted-loop-note
invariant-write_noted-loop-note l = record {
  left : l.newer ≡ lambdas (plain_notes (drop l.note-index l.noted));
  shape : map plain_elim l.written ++ eliminations (plain_notes (drop l.note-index l.noted)) ≡ eliminations (plain_notes l.noted);
  fits : list_all fits_elimination (eliminations (plain_notes l.noted)) ≡ list_all fits_elimination (eliminations (plain_notes (drop l.note-index l.noted)));
}

abbrev pub invariant-variables-loop-place : goal.invariant-variables-loop-place
invariant-variables-loop-place l = record {
  shape : map plain_entry l.tuple ++ variable_entries (simple_telescope_of (map plain_simple_entry (drop l.place l.entries))) ≡ variable_entries (simple_telescope_of (map plain_simple_entry l.entries));
  fits : list_all fits_entry (variable_entries (simple_telescope_of (map plain_simple_entry l.entries))) ≡ list_all fits_entry (variable_entries (simple_telescope_of (map plain_simple_entry (drop l.place l.entries))));
}
