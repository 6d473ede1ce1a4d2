use Rattle.celf_reconstruct.specs.Naming.{IsNamedUntil}
use Rattle.celf_reconstruct.proofs.naming.name_each.Given as goal

abbrev pub invariant-loop-meta : goal.invariant-loop-meta
invariant-loop-meta l = IsNamedUntil l.first l.left l.fn.store l.meta l.store
