use Rattle.celf_filled.proofs.FormedTypes.{made_types_are_formed}
use Rattle.celf_filled.proofs.laws.made_types_are_formed.Goals as goal

pub returns : goal.returns
returns c = made_types_are_formed
