-- The images so far are those of the first variables.
use Rattle.std.proofs.Common.{ℕ, ◌≡◌, ◌<◌, length, map}
use Rattle.std.specs.List.{slice_get}
use Rattle.std.specs.Prelude.{Some}
use Rattle.pattern_laws.specs.Patterns.{inverse}
use Rattle.celf_constraints.specs.Reading.{plain_place}
use Rattle.celf_unify.proofs.invert.inverse.Given as goal

abbrev pub invariant-loop-local : goal.invariant-loop-local
invariant-loop-local l = (length l.images.items ≡ l.local) × ((v : ℕ) → v < l.local → slice_get l.images.items v ≡ Some (inverse l.count (map plain_place l.places) v))
