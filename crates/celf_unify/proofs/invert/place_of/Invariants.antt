-- The local stands at none of the places that were passed.
use Rattle.std.proofs.Common.{ℕ, ◌≡◌, ◌+◌, map, drop}
use Rattle.pattern_laws.specs.Patterns.{inverse}
use Rattle.celf_constraints.specs.Reading.{plain_place}
use Rattle.celf_unify.proofs.invert.place_of.Given as goal

abbrev pub invariant-loop-number : goal.invariant-loop-number
invariant-loop-number l = (n : ℕ) → inverse n (map plain_place l.places) l.local ≡ l.number + inverse n (map plain_place (drop l.number l.places)) l.local
