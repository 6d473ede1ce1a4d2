use Rattle.gathering.proofs.FormedInstances.{well_formed_solves}
use Rattle.gathering.proofs.laws.items.Goals as goal

pub returns : goal.returns
returns c = well_formed_solves
