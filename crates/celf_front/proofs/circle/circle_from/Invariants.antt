use Rattle.celf_front.specs.Needs.{mentions}
use Rattle.celf_front.specs.Listed.{IsListed, left}
use Rattle.celf_front.proofs.Circles.{IsWay}
use Rattle.celf_front.proofs.circle.circle_from.Given as goal

abbrev pub invariant-loop-way : goal.invariant-loop-way
invariant-loop-way l = record {
  listed : IsListed l.count l.way;
  way : IsWay l.count (mentions l.needs) l.placed.numbers l.first l.way.numbers l.binder;
}

abbrev pub decreases-loop-way : goal.decreases-loop-way
decreases-loop-way l = left l.way
