-- Inner: the redexes of the parts of a list, as one list.
use Rattle.std.specs.Prelude.{◌≡◌, List, [], ◌∷◌, ◌++◌, refl}
use Rattle.std.specs.List.{flat_map}
use Rattle.std.proofs.Common.{ap}
use Rattle.celf_surface.specs.declared.surface.SMode.{SMode}
use Rattle.celf_surface.specs.declared.surface.Span.{Span}
use Rattle.celf_surface.specs.Surface.{WrittenObject, WrittenPattern, WrittenTuple, arguments_of, steps_of, tuples_of}
use Rattle.celf_sugar.specs.Faults.{headless, redexes, argument_redexes, step_redexes, tuple_redexes, tuples_redexes}

-- those of an argument
abbrev pub of_argument : SMode × WrittenObject → List Span
of_argument a = redexes a.1

-- those of an object that stands where a head is wanted
abbrev pub of_head : WrittenObject → List Span
of_head o = headless o ++ redexes o

-- those of a step
abbrev pub of_step : WrittenPattern × WrittenObject → List Span
of_step s = of_head s.1

pub arguments-listed : (as_ : List (SMode × WrittenObject)) → argument_redexes (arguments_of as_) ≡ flat_map of_argument as_
arguments-listed [] = refl
arguments-listed (a ∷ as_) = ap (λ xs. redexes a.1 ++ xs) (arguments-listed as_)

pub steps-listed : (ss : List (WrittenPattern × WrittenObject)) → step_redexes (steps_of ss) ≡ flat_map of_step ss
steps-listed [] = refl
steps-listed (s ∷ ss) = ap (λ xs. of_step s ++ xs) (steps-listed ss)

pub tuples-listed : (ts : List WrittenTuple) → tuples_redexes (tuples_of ts) ≡ flat_map tuple_redexes ts
tuples-listed [] = refl
tuples-listed (t ∷ ts) = ap (λ xs. tuple_redexes t ++ xs) (tuples-listed ts)

pub ruleset listed_laws = (arguments-listed, steps-listed, tuples-listed)
