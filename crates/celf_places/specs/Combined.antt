-- Options put together.
use Rattle.std.specs.Prelude.{Option, Some, None}

-- What f makes of two parts; none where one of them is none.
abbrev pub combined : {X Y Z : Type 0} → (X → Y → Z) → Option X → Option Y → Option Z
combined f (Some x) (Some y) = Some (f x y)
combined f (Some x) None = None
combined f None y = None

-- what has a mode or the modes of a pattern
abbrev pub with_mode : {M X : Type 0} → M → X → M × X
with_mode m x = (m, x)
