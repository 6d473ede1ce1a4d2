use Rattle.std.proofs.Common.{ap, sym, ◌∙◌, List, map}
use Rattle.clf_syntax.specs.PlainSimple.{plain_simple_entry}
use Rattle.clf_sig.specs.Signature.{plain_signature}
use Rattle.celf_sugar.specs.declared.plain.PExpr.{out-PExpr}
use Rattle.celf_sugar.specs.declared.plain.PStep.{PStep}
use Rattle.celf_sugar.specs.declared.plain.PMarked.{PMarked}
use Rattle.celf_sugar.specs.PlainTree.{steps_of, tuple_of}
use Rattle.celf_sugar.specs.Plain.{desugared_expression, desugared_step, desugared_marked, expression-of}
use Rattle.celf_places.specs.Along.{left_along}
use Rattle.celf_places.proofs.AlongLaws.{left_end}
use Rattle.celf_implicit.specs.Answers.{plain_implicit}
use Rattle.celf_implicit.specs.Noting.{plain_notes, plain_scope, after_one_step}
use Rattle.celf_implicit.proofs.Walks.{on_ok, expression_noted}
use Rattle.celf_implicit.proofs.objects.+objects.Goals as goal

pub note_expression-returns : goal.note_expression-returns
note_expression-returns t c =
    on_ok c.note_tuple.result _ _ c.note_tuple.ensures
    (λ later. expression_noted (plain_signature c.args.sig.now) (map plain_implicit c.args.found.now) (plain_scope c.args.outer.now c.args.outer_checked) (plain_notes c.args.notes.now) (map plain_simple_entry c.args.wanted.now)
    (desugared_expression c.args.expr.now) (map desugared_step c.as_slice-step-items.result.now) (map desugared_marked c.as_slice.result.now)
    (plain_notes c.loop-step.notes, plain_scope c.loop-step.binders c.loop-step.checked) (plain_notes c.note_tuple.new.notes)
    (expression-of c.args.expr.now
    ∙ ap (λ (ss : List PStep). (steps_of (map desugared_step ss), tuple_of (map desugared_marked (out-PExpr c.args.expr.now).result))) (sym c.as_slice-step-items.ensures)
    ∙ ap (λ (us : List PMarked). (steps_of (map desugared_step c.as_slice-step-items.result.now), tuple_of (map desugared_marked us))) (sym c.as_slice.ensures))
    (left_end desugared_step (after_one_step (plain_signature c.args.sig.now) (map plain_implicit c.args.found.now)) (plain_notes c.loop-step.notes, plain_scope c.loop-step.binders c.loop-step.checked) c.as_slice-step-items.result.now c.loop-step.step-index
    (left_along (after_one_step (plain_signature c.args.sig.now) (map plain_implicit c.args.found.now)) (plain_notes c.args.notes.now, plain_scope c.args.outer.now c.args.outer_checked) (map desugared_step c.as_slice-step-items.result.now))
    c.loop-step-test.false c.loop-step.invariant)
    later)
