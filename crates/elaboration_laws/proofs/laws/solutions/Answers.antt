use Rattle.elaboration_laws.proofs.General.{solutions_are_instances}
use Rattle.elaboration_laws.proofs.laws.solutions.Goals as goal

pub returns : goal.returns
returns c = solutions_are_instances
