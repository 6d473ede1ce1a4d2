use Rattle.std.proofs.Common.{ap, sym, ◌∙◌, List, map}
use Rattle.clf_syntax.specs.Plain.{plain_step}
use Rattle.clf_syntax.specs.PlainSimple.{plain_simple_entry}
use Rattle.clf_sig.specs.Signature.{plain_signature}
use Rattle.celf_sugar.specs.declared.plain.PExpr.{out-PExpr}
use Rattle.celf_sugar.specs.declared.plain.PStep.{PStep}
use Rattle.celf_sugar.specs.declared.plain.PMarked.{PMarked}
use Rattle.celf_sugar.specs.PlainTree.{steps_of, tuple_of}
use Rattle.celf_sugar.specs.Plain.{desugared_expression, desugared_elim, desugared_step, desugared_marked, expression-of}
use Rattle.celf_places.specs.Along.{left_along}
use Rattle.celf_places.proofs.AlongLaws.{left_end}
use Rattle.celf_explicit.specs.Objects.{expression_of}
use Rattle.celf_filled.specs.Scopes.{plain_scope, plain_named}
use Rattle.celf_filled.specs.States.{State, state_of}
use Rattle.celf_filled.specs.Headed.{plain_headed, plain_steps}
use Rattle.celf_filled.specs.Walk.{Steps, fill_head, fill_act, fill_step, no_steps_yet, spine-along}
use Rattle.celf_filled.proofs.Walks.{expression_filled}
use Rattle.celf_filled.proofs.objects.+fill.Goals as goal

pub fill_neutral-returns : goal.fill_neutral-returns
fill_neutral-returns t c =
    let sig = plain_signature c.args.sig.now in
    let xs = map plain_named c.args.variables.now in
    let ls = plain_scope c.args.scope.now in
    let first = fill_head sig xs ls c.args.head.now (state_of c.args.store.now c.args.whole.now) in
    left_end desugared_elim (fill_act sig xs ls) (plain_headed c.loop-act.headed, state_of c.loop-act.store c.loop-act.whole) c.args.spine.now c.loop-act.act-index (left_along (fill_act sig xs ls) first (map desugared_elim c.args.spine.now))
    c.loop-act-test.false c.loop-act.invariant ∙ sym (spine-along sig xs ls first (map desugared_elim c.args.spine.now))

pub fill_expression-returns-clause-made : goal.fill_expression-returns-clause-made
fill_expression-returns-clause-made t c =
    let sig = plain_signature c.args.sig.now in
    let xs = map plain_named c.args.variables.now in
    let old = state_of c.args.store.now c.args.whole.now in
    let w : Steps × State = (plain_steps c.loop-step.steps c.loop-step.scope, state_of c.loop-step.store c.loop-step.whole) in
    c.in_ok-made.ensures ∙ ap (expression_of (map plain_step c.loop-step.steps)) c.in_ok-tuple.ensures.made
    ∙ ap (λ v. v.0) (sym (expression_filled sig xs (plain_scope c.args.outer.now) (map plain_simple_entry c.args.wanted.now) old (desugared_expression c.args.expr.now)
    (map desugared_step c.as_slice-step-items.result.now) (map desugared_marked c.as_slice.result.now) w
    (expression-of c.args.expr.now
    ∙ ap (λ (ss : List PStep). (steps_of (map desugared_step ss), tuple_of (map desugared_marked (out-PExpr c.args.expr.now).result))) (sym c.as_slice-step-items.ensures)
    ∙ ap (λ (us : List PMarked). (steps_of (map desugared_step c.as_slice-step-items.result.now), tuple_of (map desugared_marked us))) (sym c.as_slice.ensures))
    (left_end desugared_step (fill_step sig xs) w c.as_slice-step-items.result.now c.loop-step.step-index
    (left_along (fill_step sig xs) (no_steps_yet (plain_scope c.args.outer.now), old) (map desugared_step c.as_slice-step-items.result.now)) c.loop-step-test.false c.loop-step.invariant)))

pub fill_expression-returns-clause-left : goal.fill_expression-returns-clause-left
fill_expression-returns-clause-left t c =
    let sig = plain_signature c.args.sig.now in
    let xs = map plain_named c.args.variables.now in
    let old = state_of c.args.store.now c.args.whole.now in
    let w : Steps × State = (plain_steps c.loop-step.steps c.loop-step.scope, state_of c.loop-step.store c.loop-step.whole) in
    c.in_ok-tuple.ensures.left
    ∙ ap (λ v. v.1) (sym (expression_filled sig xs (plain_scope c.args.outer.now) (map plain_simple_entry c.args.wanted.now) old (desugared_expression c.args.expr.now)
    (map desugared_step c.as_slice-step-items.result.now) (map desugared_marked c.as_slice.result.now) w
    (expression-of c.args.expr.now
    ∙ ap (λ (ss : List PStep). (steps_of (map desugared_step ss), tuple_of (map desugared_marked (out-PExpr c.args.expr.now).result))) (sym c.as_slice-step-items.ensures)
    ∙ ap (λ (us : List PMarked). (steps_of (map desugared_step c.as_slice-step-items.result.now), tuple_of (map desugared_marked us))) (sym c.as_slice.ensures))
    (left_end desugared_step (fill_step sig xs) w c.as_slice-step-items.result.now c.loop-step.step-index
    (left_along (fill_step sig xs) (no_steps_yet (plain_scope c.args.outer.now), old) (map desugared_step c.as_slice-step-items.result.now)) c.loop-step-test.false c.loop-step.invariant)))
