use Rattle.celf_elaboration.proofs.Orders.{order_is_one}
use Rattle.celf_elaboration.proofs.laws.order.Goals as goal

pub returns : goal.returns
returns c = order_is_one
