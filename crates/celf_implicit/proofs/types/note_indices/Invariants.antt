-- What is noted so far, with the entries that are left, leads on to what is noted of all.
use Rattle.std.proofs.Common.{◌≡◌, true, map, drop}
use Rattle.clf_syntax.specs.PlainSimple.{plain_simple_entry}
use Rattle.clf_sig.specs.Signature.{plain_signature}
use Rattle.celf_sugar.specs.Plain.{desugared_object}
use Rattle.celf_places.specs.Along.{left_along}
use Rattle.celf_implicit.specs.Answers.{plain_implicit}
use Rattle.celf_implicit.specs.Noting.{plain_notes, plain_scope, after_index}
use Rattle.celf_implicit.proofs.types.note_indices.Given as goal

abbrev pub invariant-loop-index : goal.invariant-loop-index
invariant-loop-index l =
    left_along (after_index (plain_signature l.sig) (map plain_implicit l.found) (plain_scope l.fn.binders true)) (plain_notes l.notes, map plain_simple_entry l.wanted) (map desugared_object (drop l.index-index l.indices))
    ≡ left_along (after_index (plain_signature l.sig) (map plain_implicit l.found) (plain_scope l.fn.binders true)) (plain_notes l.fn.notes, drop l.fn.left_out (map plain_simple_entry l.fn.entries)) (map desugared_object l.indices)
