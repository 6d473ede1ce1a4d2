-- Inner: which right steps are free while steps are chosen.
use Rattle.std.specs.Prelude.{ℕ, Bool, true, not, List, Option, Some, None, slice_get}

abbrev pub is_unmarked : Option Bool → Bool
is_unmarked None = true
is_unmarked (Some mark) = not mark

-- whether no mark stands at a place
abbrev pub is_free : List Bool → ℕ → Bool
is_free used j = is_unmarked (slice_get used j)
