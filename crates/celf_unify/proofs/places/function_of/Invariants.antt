-- What is still to be passed, around the type so far, is the whole.
use Rattle.std.proofs.Common.{◌≡◌, map, drop}
use Rattle.clf_syntax.specs.PlainSimple.{plain_simple}
use Rattle.pattern_laws.specs.Patterns.{arrows}
use Rattle.celf_constraints.specs.Reading.{plain_place}
use Rattle.celf_unify.proofs.places.function_of.Given as goal

abbrev pub invariant-loop-place : goal.invariant-loop-place
invariant-loop-place l = arrows (map plain_place (drop l.place-index l.places)) (plain_simple l.ty) ≡ arrows (map plain_place l.places) (plain_simple l.end)
