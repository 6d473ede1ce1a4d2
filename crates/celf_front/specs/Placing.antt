-- What is answered of the order of binders.
use Rattle.celf_elaboration.specs.Binders.{IsOrder, IsCircle}
use Rattle.celf_front.specs.declared.needs.Needs.{Needs}
use Rattle.celf_front.specs.declared.placing.Placing.{Placing}
use Rattle.celf_front.specs.declared.placing.Placing.TheVariants.{Order, Circle}
use Rattle.celf_front.specs.Needs.{count_of, mentions}

-- It is the order of all binders, or the circle that stands in its way.
abbrev pub IsPlacing : Needs → Placing → Type 0
IsPlacing t (Order order) = IsOrder (count_of t) (mentions t) order
IsPlacing t (Circle circle) = IsCircle (count_of t) (mentions t) circle
