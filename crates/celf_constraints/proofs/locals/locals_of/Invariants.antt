use Rattle.std.proofs.Common.{◌≡◌, ◌++◌, map, drop}
use Rattle.celf_constraints.specs.Ended.{local_of}
use Rattle.celf_constraints.specs.Reading.{plain_place}
use Rattle.celf_constraints.proofs.locals.locals_of.Given as goal

abbrev pub invariant-loop-place : goal.invariant-loop-place
invariant-loop-place l = l.found.items ++ map (λ p. local_of (plain_place p)) (drop l.place-index l.places) ≡ map (λ p. local_of (plain_place p)) l.places
