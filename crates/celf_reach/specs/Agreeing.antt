-- Inner: the places with the same local in two lists.
use Rattle.std.specs.Prelude.{ℕ, ◌≡◌, Bool, List, Option, Some, None}
use Rattle.pattern_laws.specs.Patterns.{Place, NoCircle, local_at}
use Rattle.reach_walk.specs.Answers.{KeepsAgreeing}

-- Each local at the place is at the same place of the other list.
abbrev pub AgreesAt : List Place → List Place → ℕ → Type 0
AgreesAt ps zs u = (w : ℕ) → local_at ps u ≡ Some w → local_at zs u ≡ Some w

abbrev pub Agrees : List Place → List Place → Option (List Bool) → Type 0
Agrees ps zs None = NoCircle ps zs → ⊥
Agrees ps zs (Some bs) = KeepsAgreeing ps zs bs
