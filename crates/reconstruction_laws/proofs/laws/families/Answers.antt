use Rattle.reconstruction_laws.proofs.FamiliesElaborated.{family_elaboration_solves, family_elaborations_are_instances}
use Rattle.reconstruction_laws.proofs.laws.families.Goals as goal

pub returns-clause-solves : goal.returns-clause-solves
returns-clause-solves c = family_elaboration_solves

pub returns-clause-instances : goal.returns-clause-instances
returns-clause-instances c = family_elaborations_are_instances
