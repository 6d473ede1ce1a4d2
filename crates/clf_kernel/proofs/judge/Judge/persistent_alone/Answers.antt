use Rattle.std.proofs.Common.{◌-◌, ◌∙◌, reverse, ap, arith}
use Rattle.use_contexts.specs.Context.{modes}
use Rattle.clf_kernel.proofs.RowSteps.{persistent_more}
use Rattle.clf_kernel.specs.Judge.{context_of}
use Rattle.clf_kernel.proofs.judge.Judge.persistent_alone.Goals as goal

pub loop-var-preserved : goal.loop-var-preserved
loop-var-preserved c = (omega (arith, c.loop-var.invariant.0), ap reverse c.in_ok-push.ensures.ok ∙ persistent_more (modes (context_of c.args.self.now)) (c.loop-var.var - 1) c.loop-var.var c.mode.result c.loop-var.held c.is_persistent.result (omega (arith, c.loop-var-test.true)) c.mode.ensures c.is_persistent.ensures c.loop-var.invariant.1)
