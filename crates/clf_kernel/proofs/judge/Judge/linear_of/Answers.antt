use Rattle.std.proofs.Common.{◌-◌, ◌∙◌, reverse, ap, arith}
use Rattle.use_contexts.specs.Context.{modes}
use Rattle.use_contexts.specs.Marks.{marks}
use Rattle.clf_kernel.proofs.RowSteps.{linear_more}
use Rattle.clf_kernel.specs.Judge.{context_of}
use Rattle.clf_kernel.proofs.judge.Judge.linear_of.Goals as goal

pub loop-var-preserved : goal.loop-var-preserved
loop-var-preserved c = (omega (arith, c.loop-var.invariant.0), ap reverse c.in_ok-push.ensures.ok ∙ linear_more (modes (context_of c.args.self.now)) (marks c.args.first.now) (marks c.args.second.now) (c.loop-var.var - 1) c.loop-var.var c.mode.result c.holds.result c.holds-in-loop-var.result c.loop-var.held c.chosen.result (omega (arith, c.loop-var-test.true)) c.mode.ensures c.holds.ensures c.holds-in-loop-var.ensures c.chosen.ensures c.loop-var.invariant.1)
