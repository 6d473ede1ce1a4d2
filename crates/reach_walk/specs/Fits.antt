-- Inner: places whose locals stand at their own types.
use Rattle.std.specs.Prelude.{◌≡◌, ◌⊎◌, true, List, [], ◌∷◌}
use Rattle.pattern_laws.specs.Patterns.{Place, blank}

-- Each local that stands at a place that is not blank has the type of the place.
abbrev pub FitsOwn : List Place → List Place → Type 0
FitsOwn (p ∷ ps) (q ∷ qs) = ((p.1 ≡ q.1) ⊎ (blank p.1 ≡ true)) × FitsOwn ps qs
FitsOwn [] qs = Unit {0}
FitsOwn (p ∷ ps) [] = Unit {0}
