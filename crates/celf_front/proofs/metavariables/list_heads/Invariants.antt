use Rattle.std.proofs.Common.{take}
use Rattle.celf_front.specs.Metavariables.{metavariables, ListsMore}
use Rattle.celf_front.proofs.metavariables.list_heads.Given as goal

abbrev pub invariant-loop-head : goal.invariant-loop-head
invariant-loop-head l = ListsMore (metavariables (take l.head-index l.heads)) l.initial.listed l.listed
