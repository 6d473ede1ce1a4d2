use Rattle.gathering.proofs.Whole.{instance_solves, typed_instance_gathers}
use Rattle.gathering.proofs.laws.instances.Goals as goal

pub returns-clause-solves : goal.returns-clause-solves
returns-clause-solves c = instance_solves

pub returns-clause-gathers : goal.returns-clause-gathers
returns-clause-gathers c = typed_instance_gathers
