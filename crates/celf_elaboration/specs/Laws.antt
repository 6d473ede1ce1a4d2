-- Laws of elaborations of items, as statements.
use Rattle.std.specs.Prelude.{ℕ, ◌≡◌, Bool, List}
use Rattle.celf_elaboration.specs.Binders.{IsOrder}

-- Binders have at most one order.
abbrev pub OrderIsOne : Type 0
OrderIsOne = (count : ℕ) (needs : ℕ → ℕ → Bool) (order other : List ℕ) → IsOrder count needs order → IsOrder count needs other → order ≡ other
