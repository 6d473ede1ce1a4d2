use Rattle.std.proofs.Common.{◌≡◌, map, replicate}
use Rattle.trace_equal.proofs.rights.each_with.Given as goal

abbrev pub invariant-loop-step : goal.invariant-loop-step
invariant-loop-step l = map (λ c. c.now) l.candidates ≡ replicate l._step l.places
