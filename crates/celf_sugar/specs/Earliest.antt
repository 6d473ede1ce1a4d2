-- The earliest of some things that each stand at a number.
use Rattle.std.specs.Prelude.{ℕ, List, [], ◌∷◌, Option, None, Some, nat_lt, if◌then◌else◌}

-- of two, the one that stands earlier; the first where they stand at one number
abbrev pub sooner : {X : Type 0} → (X → ℕ) → Option X → Option X → Option X
sooner place None y = y
sooner place (Some x) None = Some x
sooner place (Some x) (Some y) = if nat_lt (place y) (place x) then Some y else Some x

-- the one that stands earliest, and of those at one number the first in the list
abbrev pub earliest : {X : Type 0} → (X → ℕ) → List X → Option X
earliest place [] = None
earliest place (x ∷ xs) = sooner place (Some x) (earliest place xs)
