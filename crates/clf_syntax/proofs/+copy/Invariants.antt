-- What has been copied is the front of the list.
use Rattle.std.proofs.Common.{◌≡◌, take}
use Rattle.clf_syntax.proofs.+copy.Given as goal

abbrev pub invariant-copy::copy_spine-loop-act : goal.invariant-copy::copy_spine-loop-act
invariant-copy::copy_spine-loop-act l = l.copied ≡ take l.act-index l.spine

abbrev pub invariant-copy::copy_steps-loop-step : goal.invariant-copy::copy_steps-loop-step
invariant-copy::copy_steps-loop-step l = l.copied ≡ take l.step-index l.steps

abbrev pub invariant-copy::copy_tuple-loop-entry : goal.invariant-copy::copy_tuple-loop-entry
invariant-copy::copy_tuple-loop-entry l = l.copied ≡ take l.entry-index l.tuple
