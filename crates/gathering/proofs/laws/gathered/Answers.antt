use Rattle.gathering.proofs.Whole.{gathering_is_one, conforming_gathers}
use Rattle.gathering.proofs.GatheredTyped.{gathered_is_typed}
use Rattle.gathering.proofs.TypedObjects.{typed_conforms}
use Rattle.gathering.proofs.laws.gathered.Goals as goal

pub returns-clause-one : goal.returns-clause-one
returns-clause-one c = gathering_is_one

pub returns-clause-conforming : goal.returns-clause-conforming
returns-clause-conforming c = conforming_gathers

pub returns-clause-typed : goal.returns-clause-typed
returns-clause-typed c = typed_conforms

pub returns-clause-equations : goal.returns-clause-equations
returns-clause-equations c = gathered_is_typed
