use Rattle.elaboration_laws.proofs.InFronts.{elaborations_are_instances, well_formed_elaboration_solves}
use Rattle.elaboration_laws.proofs.laws.declarations.Goals as goal

pub returns-clause-solves : goal.returns-clause-solves
returns-clause-solves c = well_formed_elaboration_solves

pub returns-clause-instances : goal.returns-clause-instances
returns-clause-instances c = elaborations_are_instances
