use Rattle.std.proofs.Common.{◌≡◌, ◌++◌, ◌-◌}
use Rattle.trace_equal.specs.Places.{from_on}
use Rattle.trace_equal.proofs.rights.all_places.Given as goal

abbrev pub invariant-loop-place : goal.invariant-loop-place
invariant-loop-place l = from_on 0 l.count ≡ l.places ++ from_on l.place (l.count - l.place)
