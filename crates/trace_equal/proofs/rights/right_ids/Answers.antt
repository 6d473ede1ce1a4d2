use Rattle.std.proofs.Common.{ap, ◌∙◌, ◌+◌}
use Rattle.trace_equal.proofs.ComparingLaws.{count_from-next, runs_from-push}
use Rattle.trace_equal.proofs.rights.right_ids.Goals as goal

pub loop-step-preserved : goal.loop-step-preserved
loop-step-preserved c =
    let next = c.in-Some.ensures.1 ∙ ap (λ n. c.loop-step.count + n) c.len.ensures in record {
      before = runs_from-push c.args.fresh c.loop-step.count c.in-Some.next c.loop-step.step-index _ c.loop-step.before c.push.new.self c.step-item.result c.args.steps.now c.loop-step-test.true c.step-item.is
          c.loop-step.invariant.before c.in_ok-push.ensures.ok next;
      all = count_from-next _ c.loop-step.count c.in-Some.next c.loop-step.step-index c.step-item.result c.args.steps.now c.loop-step-test.true c.step-item.is c.loop-step.invariant.all next;
    }
