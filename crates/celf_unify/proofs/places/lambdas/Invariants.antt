-- What is still to be passed, around the object so far, is the whole.
use Rattle.std.proofs.Common.{◌≡◌, map, drop}
use Rattle.clf_syntax.specs.Plain.{plain_obj}
use Rattle.pattern_laws.specs.Patterns.{lams}
use Rattle.celf_constraints.specs.Reading.{plain_place}
use Rattle.celf_unify.proofs.places.lambdas.Given as goal

abbrev pub invariant-loop-place : goal.invariant-loop-place
invariant-loop-place l = lams (map plain_place (drop l.place-index l.places)) (plain_obj l.whole) ≡ lams (map plain_place l.places) (plain_obj l.fn.body)
