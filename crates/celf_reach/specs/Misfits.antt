-- Inner: whether a place fits its local.
use Rattle.std.specs.Prelude.{Bool, ◌||◌, not}
use Rattle.clf_simple.specs.Decision.{same_type}
use Rattle.pattern_laws.specs.Patterns.{Place as PlainPlace, blank}
use Rattle.celf_constraints.specs.declared.places.Place.{Place}
use Rattle.celf_constraints.specs.Reading.{plain_place, own_place}

-- The place is blank, or its local has the type of the place.
abbrev pub fits : PlainPlace → PlainPlace → Bool
fits p q = blank p.1 || same_type p.1 q.1

-- It is not blank, and its local has another type.
abbrev pub misfits : Place → Bool
misfits p = not (fits (plain_place p) (own_place p))
