use Rattle.trace_equal.proofs.ComparingLaws.{from_on-push}
use Rattle.trace_equal.proofs.rights.all_places.Goals as goal

pub loop-place-preserved : goal.loop-place-preserved
loop-place-preserved c = from_on-push c.loop-place.place c.args.count _ c.loop-place.places c.push.new.self c.loop-place-test.true c.loop-place.invariant c.in_ok-push.ensures.ok
