use Rattle.celf_solve.proofs.After.{settled_is_formed}
use Rattle.celf_solve.proofs.laws.settled_is_formed.Goals as goal

pub returns : goal.returns
returns c = settled_is_formed
