use Rattle.front_laws.proofs.Stands.{binders_stand}
use Rattle.front_laws.proofs.laws.front_in_order.Goals as goal

pub returns : goal.returns
returns c = binders_stand
