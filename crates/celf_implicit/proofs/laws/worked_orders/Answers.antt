use Rattle.std.specs.Prelude.{refl}
use Rattle.celf_implicit.proofs.WorkedOrders.{sum_order, conclusion_order}
use Rattle.celf_implicit.proofs.laws.worked_orders.Goals as goal

pub returns : goal.returns
returns c = record {
  found_in_sum = refl;
  order_in_sum = sum_order;
  found_in_premise = refl;
  conclusion_appears_first = conclusion_order;
}
