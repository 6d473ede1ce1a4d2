use Rattle.std.proofs.Common.{◌≡◌, ◌++◌, map, drop, false}
use Rattle.celf_constraints.proofs.ways.none_held.Given as goal

abbrev pub invariant-loop-place : goal.invariant-loop-place
invariant-loop-place l = l.held.items ++ map (λ x. false) (drop l._place-index l.from) ≡ map (λ x. false) l.from
