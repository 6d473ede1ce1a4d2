use Rattle.celf_front.specs.Marking.{IsMarked}
use Rattle.celf_front.proofs.mentions.row_of.Given as goal

abbrev pub invariant-loop-head : goal.invariant-loop-head
invariant-loop-head l = IsMarked l.front.first l.front.binders.now l.head-items l.head-index l.row.items
