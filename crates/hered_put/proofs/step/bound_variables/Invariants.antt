-- What is wanted of the whole is what is done and what is wanted of the rest.
use Rattle.std.proofs.Common.{◌≡◌, ◌+◌, drop, map}
use Rattle.clf_syntax.specs.Plain.{plain_step}
use Rattle.hered_put.specs.Pieces.{binders_of}
use Rattle.hered_put.proofs.step.bound_variables.Given as goal

abbrev pub invariant-loop-step : goal.invariant-loop-step
invariant-loop-step l = l.bound + binders_of (map plain_step (drop l.step-index l.steps)) ≡ binders_of (map plain_step l.steps)
