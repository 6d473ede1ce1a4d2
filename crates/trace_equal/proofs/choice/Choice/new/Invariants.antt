use Rattle.std.proofs.Common.{◌≡◌, false, replicate}
use Rattle.trace_equal.proofs.choice.Choice.new.Given as goal

abbrev pub invariant-loop-step : goal.invariant-loop-step
invariant-loop-step l = l.used ≡ replicate l._step false
