use Rattle.trace_equal.proofs.Ids.{all_are_candidates}
use Rattle.trace_equal.proofs.laws.matchings_by_places.Goals as goal

pub returns-clause-all : goal.returns-clause-all
returns-clause-all c = all_are_candidates
