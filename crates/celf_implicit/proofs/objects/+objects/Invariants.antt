-- What is noted so far, with the state of the walk, leads on to what is noted of all.
use Rattle.std.proofs.Common.{◌≡◌, map, drop}
use Rattle.std.specs.Prelude.{option_copied}
use Rattle.clf_syntax.specs.PlainSimple.{plain_simple_entry}
use Rattle.clf_sig.specs.Signature.{plain_signature}
use Rattle.celf_sugar.specs.Plain.{desugared_elim, desugared_step, desugared_marked}
use Rattle.celf_places.specs.Locals.{plain_place}
use Rattle.celf_places.specs.Along.{left_along}
use Rattle.celf_implicit.specs.Answers.{plain_implicit}
use Rattle.celf_implicit.specs.Noting.{plain_notes, plain_scope, after_act, after_one_step, after_marked}
use Rattle.celf_implicit.proofs.objects.+objects.Given as goal

abbrev pub invariant-note_spine-loop-act : goal.invariant-note_spine-loop-act
invariant-note_spine-loop-act l =
    left_along (after_act (plain_signature l.sig) (map plain_implicit l.found) (plain_scope l.binders l.checked)) (plain_notes l.notes, plain_place (option_copied l.place)) (map desugared_elim (drop l.act-index l.spine))
    ≡ left_along (after_act (plain_signature l.sig) (map plain_implicit l.found) (plain_scope l.binders l.checked)) (plain_notes l.fn.notes, plain_place (option_copied l.fn.place)) (map desugared_elim l.spine)

abbrev pub invariant-note_expression-loop-step : goal.invariant-note_expression-loop-step
invariant-note_expression-loop-step l =
    left_along (after_one_step (plain_signature l.sig) (map plain_implicit l.found)) (plain_notes l.notes, plain_scope l.binders l.checked) (map desugared_step (drop l.step-index l.step-items))
    ≡ left_along (after_one_step (plain_signature l.sig) (map plain_implicit l.found)) (plain_notes l.fn.notes, plain_scope l.outer l.outer_checked) (map desugared_step l.step-items)

abbrev pub invariant-note_tuple-loop-entry : goal.invariant-note_tuple-loop-entry
invariant-note_tuple-loop-entry l =
    left_along (after_marked (plain_signature l.sig) (map plain_implicit l.found) (plain_scope l.binders l.checked)) (plain_notes l.notes, map plain_simple_entry l.wanted) (map desugared_marked (drop l.entry-index l.tuple))
    ≡ left_along (after_marked (plain_signature l.sig) (map plain_implicit l.found) (plain_scope l.binders l.checked)) (plain_notes l.fn.notes, map plain_simple_entry l.fn.wanted) (map desugared_marked l.tuple)
