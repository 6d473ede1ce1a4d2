use Rattle.std.proofs.Common.{◌≡◌, ◌≤◌, length, reverse, take}
use Rattle.trace_equal.specs.Comparing as spec
use Rattle.trace_equal.proofs.tables.place_of.Given as goal

abbrev pub invariant-loop-left : goal.invariant-loop-left
invariant-loop-left l = record {
  within : l.left ≤ length l.runs;
  same : spec.place l.runs l.variable ≡ spec.place_in (reverse (take l.left l.runs)) l.inner;
}

abbrev pub decreases-loop-left : goal.decreases-loop-left
decreases-loop-left l = l.left
