use Rattle.std.proofs.Common.{arith, ◌≡◌, ◌<◌, ◌+◌, min, map, length}
use Rattle.std.proofs.lemmas.Grind.{common_steps}
use Rattle.clf_syntax.specs.declared.number.TheConstants.{BEYOND}
use Rattle.clf_syntax.specs.declared.tree.Expr.{out-Expr}
use Rattle.clf_syntax.specs.Tree.{done, tuple_of}
use Rattle.clf_syntax.specs.Plain.{plain_entry}
use Rattle.clf_syntax.proofs.Next.{occurs_tuple-next, occurs_steps-next}
use Rattle.clf_syntax.proofs.occurs.+occurs.Goals as goal

pub occurs_tuple-returns-then-occurs_object : goal.occurs_tuple-returns-then-occurs_object
occurs_tuple-returns-then-occurs_object t c v e =
    let lt : c.loop-entry.entry-index < length c.args.tuple.now = omega arith in
    let next = occurs_tuple-next v c.loop-entry.entry-index c.entry-item.result c.args.tuple.now lt c.entry-item.is in
    grind (arith, common_steps, next, c.loop-entry.invariant v e, c.occurs_object.ensures v e)

pub occurs_tuple-loop-entry-preserved : goal.occurs_tuple-loop-entry-preserved
occurs_tuple-loop-entry-preserved t c v e =
    let lt : c.loop-entry.entry-index < length c.args.tuple.now = omega arith in
    let next = occurs_tuple-next v c.loop-entry.entry-index c.entry-item.result c.args.tuple.now lt c.entry-item.is in
    grind (arith, common_steps, next, c.loop-entry.invariant v e, c.occurs_object.ensures v e)

pub occurs_expression-returns-then-occurs_neutral : goal.occurs_expression-returns-then-occurs_neutral
occurs_expression-returns-then-occurs_neutral t c v e =
    let lt : c.loop-step.step-index < length c.as_slice-step-items.result.now = omega arith in
    let at = c.loop-step.invariant.same v e in
    let next = occurs_steps-next at.0 c.loop-step.step-index c.step-item.result c.as_slice-step-items.result.now (done (tuple_of (map plain_entry (out-Expr c.args.expr.now).result))) lt c.step-item.is in
    grind (arith, common_steps, next, at.2, c.occurs_neutral.ensures at.0 at.1)

pub occurs_expression-loop-step-preserved : goal.occurs_expression-loop-step-preserved
occurs_expression-loop-step-preserved t c = record {
  within = c.under-inner.ensures.within;
  same = λ v e.
      let lt : c.loop-step.step-index < length c.as_slice-step-items.result.now = omega arith in
      let at = c.loop-step.invariant.same v e in
      let next = occurs_steps-next at.0 c.loop-step.step-index c.step-item.result c.as_slice-step-items.result.now (done (tuple_of (map plain_entry (out-Expr c.args.expr.now).result))) lt c.step-item.is in
      let deeper : min (at.0 + length c.step-item.result.modes) BEYOND ≡ c.under-inner.result = rw c.len.ensures at (c.under-inner.ensures.same at.0 at.1) in
      (at.0 + length c.step-item.result.modes, deeper, grind (arith, common_steps, next, at.2, c.occurs_neutral.ensures at.0 at.1));
}
