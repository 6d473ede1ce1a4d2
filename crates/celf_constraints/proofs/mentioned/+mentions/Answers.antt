use Rattle.std.proofs.Common.{arith, ◌<◌, length, map}
use Rattle.std.proofs.lemmas.Grind.{common_steps}
use Rattle.clf_syntax.specs.declared.tree.Expr.{out-Expr}
use Rattle.clf_syntax.specs.Tree.{done, tuple_of}
use Rattle.clf_syntax.specs.Plain.{plain_entry}
use Rattle.celf_constraints.proofs.Spines.{mentions_tuple-next, mentions_steps-next}
use Rattle.celf_constraints.proofs.mentioned.+mentions.Goals as goal

pub mentions_tuple-returns-then-mentions : goal.mentions_tuple-returns-then-mentions
mentions_tuple-returns-then-mentions t c =
    let lt : c.loop-entry.entry-index < length c.args.tuple.now = omega arith in
    let next = mentions_tuple-next c.args.meta c.loop-entry.entry-index c.entry-item.result c.args.tuple.now lt c.entry-item.is in
    grind (arith, common_steps, next, c.loop-entry.invariant, c.mentions.ensures)

pub mentions_tuple-loop-entry-preserved : goal.mentions_tuple-loop-entry-preserved
mentions_tuple-loop-entry-preserved t c =
    let lt : c.loop-entry.entry-index < length c.args.tuple.now = omega arith in
    let next = mentions_tuple-next c.args.meta c.loop-entry.entry-index c.entry-item.result c.args.tuple.now lt c.entry-item.is in
    grind (arith, common_steps, next, c.loop-entry.invariant, c.mentions.ensures)

pub mentions_expression-returns-then-mentions_neutral : goal.mentions_expression-returns-then-mentions_neutral
mentions_expression-returns-then-mentions_neutral t c =
    let lt : c.loop-step.step-index < length c.as_slice-step-items.result.now = omega arith in
    let next = mentions_steps-next c.args.meta c.loop-step.step-index c.step-item.result c.as_slice-step-items.result.now (done (tuple_of (map plain_entry (out-Expr c.args.expr.now).result))) lt c.step-item.is in
    grind (arith, common_steps, next, c.loop-step.invariant, c.mentions_neutral.ensures)

pub mentions_expression-loop-step-preserved : goal.mentions_expression-loop-step-preserved
mentions_expression-loop-step-preserved t c =
    let lt : c.loop-step.step-index < length c.as_slice-step-items.result.now = omega arith in
    let next = mentions_steps-next c.args.meta c.loop-step.step-index c.step-item.result c.as_slice-step-items.result.now (done (tuple_of (map plain_entry (out-Expr c.args.expr.now).result))) lt c.step-item.is in
    grind (arith, common_steps, next, c.loop-step.invariant, c.mentions_neutral.ensures)
