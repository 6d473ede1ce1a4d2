use Rattle.std.proofs.Common.{arith, ◌<◌, length, map}
use Rattle.std.proofs.lemmas.Grind.{common_steps}
use Rattle.clf_syntax.specs.declared.tree.Expr.{out-Expr}
use Rattle.clf_syntax.specs.Tree.{done, tuple_of}
use Rattle.clf_syntax.specs.Plain.{plain_entry}
use Rattle.celf_reach.proofs.Spines.{marked_tuple-next, marked_steps-next}
use Rattle.celf_reach.proofs.marks.+marked.Goals as goal

pub marked_in_tuple-returns-then-found : goal.marked_in_tuple-returns-then-found
marked_in_tuple-returns-then-found t c =
    let lt : c.loop-entry.entry-index < length c.args.tuple.now = omega arith in
    let next = marked_tuple-next c.args.marks.now c.args.depth c.loop-entry.entry-index c.entry-item.result c.args.tuple.now lt c.entry-item.is in
    grind (arith, common_steps, next, c.loop-entry.invariant, c.in_ok-found.ensures)

pub marked_in_tuple-loop-entry-preserved : goal.marked_in_tuple-loop-entry-preserved
marked_in_tuple-loop-entry-preserved t c =
    let lt : c.loop-entry.entry-index < length c.args.tuple.now = omega arith in
    let next = marked_tuple-next c.args.marks.now c.args.depth c.loop-entry.entry-index c.entry-item.result c.args.tuple.now lt c.entry-item.is in
    grind (arith, common_steps, next, c.loop-entry.invariant, c.in_ok-found.ensures)

pub marked_in_expression-returns-then-found : goal.marked_in_expression-returns-then-found
marked_in_expression-returns-then-found t c =
    let lt : c.loop-step.step-index < length c.as_slice-step-items.result.now = omega arith in
    let next = marked_steps-next c.args.marks.now c.loop-step.inner c.loop-step.step-index c.step-item.result c.as_slice-step-items.result.now (done (tuple_of (map plain_entry (out-Expr c.args.expr.now).result))) lt c.step-item.is in
    grind (arith, common_steps, next, c.loop-step.invariant, c.in_ok-found.ensures)

pub marked_in_expression-loop-step-preserved : goal.marked_in_expression-loop-step-preserved
marked_in_expression-loop-step-preserved t c =
    let lt : c.loop-step.step-index < length c.as_slice-step-items.result.now = omega arith in
    let next = marked_steps-next c.args.marks.now c.loop-step.inner c.loop-step.step-index c.step-item.result c.as_slice-step-items.result.now (done (tuple_of (map plain_entry (out-Expr c.args.expr.now).result))) lt c.step-item.is in
    grind (arith, common_steps, next, c.loop-step.invariant, c.in_ok-found.ensures, c.in_ok-inner.ensures, c.len.ensures)
