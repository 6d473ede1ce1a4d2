use Rattle.std.proofs.Common.{arith, ◌<◌, length, map}
use Rattle.std.proofs.lemmas.Grind.{common_steps}
use Rattle.clf_syntax.specs.declared.tree.Expr.{out-Expr}
use Rattle.clf_syntax.specs.Tree.{done, tuple_of}
use Rattle.clf_syntax.specs.Plain.{plain_entry}
use Rattle.celf_reach.proofs.Mentioning.{some_tuple-next, some_steps-next}
use Rattle.celf_reach.proofs.mentioned.+mentioned.Goals as goal

pub mentioned_in_tuple-returns-then-mentions_some : goal.mentioned_in_tuple-returns-then-mentions_some
mentioned_in_tuple-returns-then-mentions_some t c =
    let lt : c.loop-entry.entry-index < length c.args.tuple.now = omega arith in
    let next = some_tuple-next c.loop-entry.entry-index c.entry-item.result c.args.tuple.now lt c.entry-item.is in
    grind (arith, common_steps, next, c.loop-entry.invariant, c.mentions_some.ensures)

pub mentioned_in_tuple-loop-entry-preserved : goal.mentioned_in_tuple-loop-entry-preserved
mentioned_in_tuple-loop-entry-preserved t c =
    let lt : c.loop-entry.entry-index < length c.args.tuple.now = omega arith in
    let next = some_tuple-next c.loop-entry.entry-index c.entry-item.result c.args.tuple.now lt c.entry-item.is in
    grind (arith, common_steps, next, c.loop-entry.invariant, c.mentions_some.ensures)

pub mentioned_in_expression-returns-then-mentioned_in_neutral : goal.mentioned_in_expression-returns-then-mentioned_in_neutral
mentioned_in_expression-returns-then-mentioned_in_neutral t c =
    let lt : c.loop-step.step-index < length c.as_slice-step-items.result.now = omega arith in
    let next = some_steps-next c.loop-step.step-index c.step-item.result c.as_slice-step-items.result.now (done (tuple_of (map plain_entry (out-Expr c.args.expr.now).result))) lt c.step-item.is in
    grind (arith, common_steps, next, c.loop-step.invariant, c.mentioned_in_neutral.ensures)

pub mentioned_in_expression-loop-step-preserved : goal.mentioned_in_expression-loop-step-preserved
mentioned_in_expression-loop-step-preserved t c =
    let lt : c.loop-step.step-index < length c.as_slice-step-items.result.now = omega arith in
    let next = some_steps-next c.loop-step.step-index c.step-item.result c.as_slice-step-items.result.now (done (tuple_of (map plain_entry (out-Expr c.args.expr.now).result))) lt c.step-item.is in
    grind (arith, common_steps, next, c.loop-step.invariant, c.mentioned_in_neutral.ensures)
