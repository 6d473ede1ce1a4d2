-- The steps so far lead to the state that is reached.
use Rattle.clf_sig.specs.Signature.{plain_signature}
use Rattle.trace_runs.specs.Run.{IsRun, plain_state}
use Rattle.trace_runs.proofs.Replaying.{before}
use Rattle.trace_runs.proofs.step.replay.Given as goal

abbrev pub invariant-loop-place : goal.invariant-loop-place
invariant-loop-place l = IsRun (plain_signature l.fn.sig) (before (plain_signature l.fn.sig) l.fn.steps (plain_state l.fn.state) l.place) (plain_state l.fn.state) (plain_state l.reached)
