use Rattle.std.proofs.Common.{◌≡◌, ◌++◌, drop, map}
use Rattle.clf_syntax.specs.Plain.{plain_step}
use Rattle.trace_equal.specs.Comparing as spec
use Rattle.trace_equal.proofs.rights.right_ids.Given as goal

abbrev pub invariant-loop-step : goal.invariant-loop-step
invariant-loop-step l = record {
  before : spec.runs_from l.fresh 0 (map plain_step l.steps) ≡ l.before ++ spec.runs_from l.fresh l.count (map plain_step (drop l.step-index l.steps));
  all : spec.count_from 0 (map plain_step l.steps) ≡ spec.count_from l.count (map plain_step (drop l.step-index l.steps));
}
