use Rattle.std.proofs.Common.{arith, ◌≡◌, ◌<◌, ◌+◌, map, length, drop, sym, ◌∙◌, ap}
use Rattle.clf_syntax.specs.declared.tree.Expr.{out-Expr}
use Rattle.clf_syntax.specs.Tree.{PlainExpression, steps_on, done, tuple_of}
use Rattle.clf_syntax.specs.Plain.{plain_expr, plain_step, plain_entry, plain-Expr, plain-step-modes}
use Rattle.celf_front.specs.FrontHeads.{heads_by}
use Rattle.celf_front.specs.Replaced as spec
use Rattle.celf_front.proofs.Replacing.{steps-next, step-pushed, steps-ended}
use Rattle.celf_front.proofs.objects.+front.Goals as goal

pub front_expression-loop-step-preserved : goal.front_expression-loop-step-preserved
front_expression-loop-step-preserved t c =
    let i = c.loop-step.step-index in
    let r = heads_by c.args.front.now in
    let d = c.loop-step.inner in
    let s = c.step-item.result in
    let xs = c.as_slice-step-items.result.now in
    let lt : i < length xs = omega arith in
    let tuple : PlainExpression = done (tuple_of (map plain_entry (out-Expr c.args.expr.now).result)) in
    let next = steps-next r d i s xs tuple lt c.step-item.is in
    let later : PlainExpression = steps_on (map plain_step (drop (i + 1) xs)) tuple in
    let rest : PlainExpression = spec.replaced_expression r (d + length (plain_step s).0) later in
    let pushed = step-pushed c.loop-step.steps c.in_ok-front_step.field-0 s r d rest c.in_ok-front_step.ensures in
    let deep : d + length (plain_step s).0 ≡ c.in_ok-inner.inner = rw (plain-step-modes s, ← c.len.ensures) (sym c.in_ok-inner.ensures) in
    let shape : spec.replaced_expression r c.args.depth (plain_expr c.args.expr.now) ≡ steps_on (map plain_step c.push.new.self) rest
    = rw c.in_ok-push.ensures.ok (c.loop-step.invariant ∙ ap (steps_on (map plain_step c.loop-step.steps)) next ∙ sym pushed) in
    shape ∙ ap (λ n. steps_on (map plain_step c.push.new.self) (spec.replaced_expression r n later)) deep

pub front_expression-returns : goal.front_expression-returns
front_expression-returns t c =
    let r = heads_by c.args.front.now in
    let d = c.loop-step.inner in
    let R = (out-Expr c.args.expr.now).result in
    let end = steps-ended r d c.loop-step.step-index c.as_slice-step-items.result.now R (omega arith) in
    let made = rw c.as_slice.ensures at c.in_ok-result.ensures in
    plain-Expr c.loop-step.steps c.in_ok-result.result
    ∙ ap (λ es. steps_on (map plain_step c.loop-step.steps) (done (tuple_of es))) made
    ∙ sym (c.loop-step.invariant ∙ ap (steps_on (map plain_step c.loop-step.steps)) end)
