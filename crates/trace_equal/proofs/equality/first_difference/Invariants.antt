use Rattle.std.proofs.Common.{◌+◌, ℕ, drop, map}
use Rattle.clf_syntax.specs.Plain.{plain_obj}
use Rattle.trace_equal.specs.Difference.{DiffersAt}
use Rattle.trace_equal.specs.Exchange.{JoinedEach}
use Rattle.trace_equal.proofs.equality.first_difference.Given as goal

abbrev pub invariant-loop-place : goal.invariant-loop-place
invariant-loop-place l = record {
  differ : (j : ℕ) → DiffersAt j (map plain_obj (drop l.place l.found)) (map plain_obj (drop l.place l.wanted)) → DiffersAt (l.place + j) (map plain_obj l.found) (map plain_obj l.wanted);
  joined : JoinedEach (map plain_obj (drop l.place l.found)) (map plain_obj (drop l.place l.wanted)) → JoinedEach (map plain_obj l.found) (map plain_obj l.wanted);
}
