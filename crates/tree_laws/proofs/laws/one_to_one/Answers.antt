use Rattle.tree_laws.proofs.OneToOne.{one-to-one}
use Rattle.tree_laws.proofs.laws.one_to_one.Goals as goal

pub returns : goal.returns
returns c = one-to-one
