use Rattle.std.proofs.Common.{arith, ◌≡◌, ◌<◌, ◌+◌, ◌&&◌, List, map, length, drop, sym, ◌∙◌, ap}
use Rattle.std.proofs.lemmas.Grind.{common_steps}
use Rattle.std.specs.List.{list_all}
use Rattle.clf_syntax.specs.declared.tree.TupleEntry.{TupleEntry}
use Rattle.clf_syntax.specs.declared.tree.Expr.{out-Expr}
use Rattle.clf_syntax.specs.Tree.{PlainExpression, steps_on, done, tuple_of}
use Rattle.clf_syntax.specs.Plain.{plain_expr, plain_step, plain_entry, plain-Expr, plain-step-modes}
use Rattle.clf_syntax.specs.Renamings.{renumbering_by}
use Rattle.clf_syntax.specs.Written.{fits_expression}
use Rattle.clf_syntax.specs.Renumbered as spec
use Rattle.clf_syntax.proofs.Renumbered.{fits-tuple, steps-next, step-pushed, steps-ended}
use Rattle.clf_syntax.proofs.rename.+rename.Goals as goal

pub rename_expression-loop-step-preserved : goal.rename_expression-loop-step-preserved
rename_expression-loop-step-preserved t c =
    let i = c.loop-step.step-index in
    let r = renumbering_by c.args.names.now in
    let d = c.loop-step.inner in
    let s = c.step-item.result in
    let xs = c.as_slice-step-items.result.now in
    let lt : i < length xs = omega arith in
    let at = c.loop-step.invariant in
    let made = c.in_ok-rename_step.ensures in
    let tuple : PlainExpression = done (tuple_of (map plain_entry (out-Expr c.args.expr.now).result)) in
    let next = steps-next r d i s xs tuple lt c.step-item.is in
    let later : PlainExpression = steps_on (map plain_step (drop (i + 1) xs)) tuple in
    let rest : PlainExpression = spec.renumber_expression r (d + length (plain_step s).0) later in
    let pushed = step-pushed c.loop-step.steps c.in_ok-rename_step.field-0 s r d rest made.0 in
    let deep : d + length (plain_step s).0 ≡ c.in_ok-inner.inner = rw (plain-step-modes s, ← c.len.ensures) (sym c.in_ok-inner.ensures) in
    let shape : spec.renumber_expression r c.args.depth (plain_expr c.args.expr.now) ≡ steps_on (map plain_step c.push.new.self) rest
    = rw c.in_ok-push.ensures.ok (at.shape ∙ ap (steps_on (map plain_step c.loop-step.steps)) next ∙ sym pushed) in
    let fits : fits_expression (spec.renumber_expression r c.args.depth (plain_expr c.args.expr.now)) ≡ fits_expression rest
    = at.fits ∙ ap fits_expression next ∙ ap (λ b. b && fits_expression rest) made.1 in record {
      shape = shape ∙ ap (λ n. steps_on (map plain_step c.push.new.self) (spec.renumber_expression r n later)) deep;
      fits = fits ∙ ap (λ n. fits_expression (spec.renumber_expression r n later)) deep;
    }

pub rename_expression-returns-in_err-result : goal.rename_expression-returns-in_err-result
rename_expression-returns-in_err-result t c =
    let r = renumbering_by c.args.names.now in
    let d = c.loop-step.inner in
    let at = c.loop-step.invariant in
    let R = (out-Expr c.args.expr.now).result in
    let end = steps-ended r d c.loop-step.step-index c.as_slice-step-items.result.now R (omega arith) in
    let fits = at.fits ∙ ap fits_expression end ∙ fits-tuple (map (spec.renumber_entry r d) (map plain_entry R)) in
    let of_slice = fits ∙ ap (λ (es : List TupleEntry). list_all spec.fits_entry (map (spec.renumber_entry r d) (map plain_entry es))) (sym c.as_slice.ensures) in
    grind (arith, common_steps, of_slice, c.in_err-result.ensures)

pub rename_expression-returns : goal.rename_expression-returns
rename_expression-returns t c =
    let r = renumbering_by c.args.names.now in
    let d = c.loop-step.inner in
    let at = c.loop-step.invariant in
    let R = (out-Expr c.args.expr.now).result in
    let end = steps-ended r d c.loop-step.step-index c.as_slice-step-items.result.now R (omega arith) in
    let fits = at.fits ∙ ap fits_expression end ∙ fits-tuple (map (spec.renumber_entry r d) (map plain_entry R)) in
    let made = rw c.as_slice.ensures at c.in_ok-result.ensures in (
      plain-Expr c.loop-step.steps c.in_ok-result.result
          ∙ ap (λ es. steps_on (map plain_step c.loop-step.steps) (done (tuple_of es))) made.0
          ∙ sym (at.shape ∙ ap (steps_on (map plain_step c.loop-step.steps)) end),
      fits ∙ made.1,
    )
