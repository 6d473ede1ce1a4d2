-- What was kept, and what the rest of the mask keeps, is the whole.
use Rattle.std.proofs.Common.{◌≡◌, ◌++◌, map, drop}
use Rattle.pattern_laws.specs.Patterns.{masked}
use Rattle.celf_constraints.specs.Reading.{plain_place}
use Rattle.celf_unify.proofs.narrow.kept.Given as goal

abbrev pub invariant-loop-number : goal.invariant-loop-number
invariant-loop-number l = map plain_place l.kept.items ++ masked l.number (drop l.number l.mask) (map plain_place (drop l.number l.places)) ≡ masked 0 l.mask (map plain_place l.places)
