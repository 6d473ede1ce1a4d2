use Rattle.std.proofs.Common.{◌≡◌, ◌++◌, map, drop}
use Rattle.celf_implicit.specs.declared.appearance.First.{First}
use Rattle.celf_implicit.proofs.appearance.numbers_of.Given as goal

abbrev pub invariant-loop-first : goal.invariant-loop-first
invariant-loop-first l = l.numbers ++ map (λ (f : First). f.number) (drop l.first-index l.firsts) ≡ map (λ (f : First). f.number) l.firsts
