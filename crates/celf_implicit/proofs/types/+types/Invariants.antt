-- What is noted so far, with the binders so far, leads on to what is noted of all.
use Rattle.std.proofs.Common.{◌≡◌, true, map, drop}
use Rattle.clf_sig.specs.Signature.{plain_signature}
use Rattle.celf_sugar.specs.Plain.{desugared_entry}
use Rattle.celf_places.specs.Along.{left_along}
use Rattle.celf_implicit.specs.Answers.{plain_implicit}
use Rattle.celf_implicit.specs.Noting.{plain_notes, plain_scope, after_entry}
use Rattle.celf_implicit.proofs.types.+types.Given as goal

abbrev pub invariant-note_entries-loop-index : goal.invariant-note_entries-loop-index
invariant-note_entries-loop-index l =
    left_along (after_entry (plain_signature l.sig) (map plain_implicit l.found)) (plain_notes l.notes, plain_scope l.binders true) (map desugared_entry (drop l.index l.entries))
    ≡ left_along (after_entry (plain_signature l.sig) (map plain_implicit l.found)) (plain_notes l.fn.notes, plain_scope l.fn.outer true) (map desugared_entry l.entries)
