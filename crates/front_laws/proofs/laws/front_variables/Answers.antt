use Rattle.front_laws.proofs.Variables.{binders_have_variables}
use Rattle.front_laws.proofs.laws.front_variables.Goals as goal

pub returns : goal.returns
returns c = binders_have_variables
