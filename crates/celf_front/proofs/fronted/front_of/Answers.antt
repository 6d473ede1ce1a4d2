use Rattle.std.proofs.Common.{map, length, ◌∙◌, ap}
use Rattle.clf_syntax.specs.PlainTypes.{plain_ty}
use Rattle.celf_front.specs.Fronted.{at_places}
use Rattle.celf_front.proofs.Orders.{order_places, circle_places, places_typed}
use Rattle.celf_front.proofs.fronted.front_of.Goals as goal

pub numbers_at-requires : goal.numbers_at-requires
numbers_at-requires c = rw c.as_slice.ensures (order_places c.args.first (map plain_ty c.args.types.now) c.args.binders.now c.in_ok-needs.needs c.in_ok-order.field-0 c.in-Order.order c.in_ok-needs.ensures c.in_ok-order.ensures.placing c.in-Order.is)

pub under_front-requires : goal.under_front-requires
under_front-requires c =
    let within = order_places c.args.first (map plain_ty c.args.types.now) c.args.binders.now c.in_ok-needs.needs c.in_ok-order.field-0 c.in-Order.order c.in_ok-needs.ensures c.in_ok-order.ensures.placing c.in-Order.is in
    places_typed (length c.args.types.now) c.args.binders.now c.in-Order.order c.as_slice-in-Order.result.now (c.as_slice-in-Order.ensures ∙ c.in_ok-order-in-Order.ensures ∙ ap (at_places c.args.binders.now) c.as_slice.ensures) c.requires within

pub numbers_at-requires-in-Circle : goal.numbers_at-requires-in-Circle
numbers_at-requires-in-Circle c = rw c.as_slice-in-Circle.ensures (circle_places c.args.first (map plain_ty c.args.types.now) c.args.binders.now c.in_ok-needs.needs c.in_ok-order.field-0 c.in-Circle.circle c.in_ok-needs.ensures c.in_ok-order.ensures.placing c.in-Circle.is)
