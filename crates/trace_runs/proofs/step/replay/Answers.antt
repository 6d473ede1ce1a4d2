use Rattle.std.proofs.lemmas.Result.{err_from_is_err_and}
use Rattle.clf_sig.specs.Signature.{plain_signature}
use Rattle.trace_runs.specs.Run.{plain_state}
use Rattle.trace_runs.proofs.Decided.{runs-keep-starts}
use Rattle.trace_runs.proofs.Replaying.{before, goes-on, stops-at}
use Rattle.trace_runs.proofs.step.replay.Goals as goal

pub step_at-requires : goal.step_at-requires
step_at-requires c = record {
  starts = runs-keep-starts (plain_signature c.args.sig.now) (before (plain_signature c.args.sig.now) c.args.steps.now (plain_state c.args.state.now) c.loop-place.place) (plain_state c.args.state.now)
      (plain_state c.loop-place.reached) c.requires.starts c.loop-place.invariant;
}

pub loop-place-preserved : goal.loop-place-preserved
loop-place-preserved c =
    goes-on (plain_signature c.args.sig.now) c.args.steps.now (plain_state c.args.state.now) c.loop-place.place c.index-steps-place.result c.loop-place-test.true c.index-steps-place.is
    (plain_state c.loop-place.reached) (plain_state c.in_ok-reached-2.reached) c.loop-place.invariant c.in_ok-reached-2.ensures.exact

pub returns-in_err-reached-2 : goal.returns-in_err-reached-2
returns-in_err-reached-2 c =
    let p = err_from_is_err_and c.from_residual-in_err-reached-2.result c.from_residual-in_err-reached-2.ensures.1 in
    rw (p.1, p.2) (record {
      exact = stops-at (plain_signature c.args.sig.now) c.args.steps.now (plain_state c.args.state.now) c.requires.starts c.loop-place.place c.index-steps-place.result c.loop-place-test.true c.index-steps-place.is
          (plain_state c.loop-place.reached) c.loop-place.invariant c.in_err-reached-2.field-0.0 c.in_err-reached-2.ensures.exact;
    })
