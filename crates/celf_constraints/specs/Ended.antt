-- Inner: the locals of places as numbers, and the places from which the way is known to come to an end.
use Rattle.std.specs.Prelude.{ℕ, ◌≡◌, ◌⊎◌, Bool, true, false, List, Option, Some, None, if◌then◌else◌}
use Rattle.std.specs.List.{slice_get}
use Rattle.pattern_laws.specs.Patterns.{Place as PlainPlace, blank, mask_at}

-- the local of a place, where its type is not blank
abbrev pub local_of : PlainPlace → Option ℕ
local_of p = if blank p.1 then None else Some p.2

-- The local v stands at the place i.
abbrev pub StandsAt : List (Option ℕ) → ℕ → ℕ → Type 0
StandsAt xs i v = slice_get xs i ≡ Some (Some v)

-- No local stands at two places.
abbrev pub Apart : List (Option ℕ) → Type 0
Apart xs = (i j v : ℕ) → StandsAt xs i v → StandsAt xs j v → i ≡ j

-- The way from the local comes to an end at once, or leads to a place that is held.
abbrev pub LeadsOn : List (Option ℕ) → List Bool → ℕ → Type 0
LeadsOn zs held v = ((i : ℕ) → StandsAt zs i v → ⊥) ⊎ ((i : ℕ) × StandsAt zs i v × (mask_at held i ≡ true))

-- The place is not held yet, and has to be.
pub record IsOpen (xs zs : List (Option ℕ)) (held : List Bool) (j : ℕ) : Type 0 where
  pub local : ℕ
  pub stands : StandsAt xs j local
  pub unheld : mask_at held j ≡ false
  pub leads : LeadsOn zs held local

-- The way from the place comes to an end.
pub data EndsIn (xs zs : List (Option ℕ)) : ℕ → Type 0 where
  ends_there : {j v : ℕ} → StandsAt xs j v → ((i : ℕ) → StandsAt zs i v → ⊥) → EndsIn xs zs j
  ends_beyond : {j i v : ℕ} → StandsAt xs j v → StandsAt zs i v → EndsIn xs zs i → EndsIn xs zs j
