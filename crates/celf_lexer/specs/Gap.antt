-- Blanks and comments, which stand between tokens.
use Rattle.std.specs.Prelude.{ℕ, ◌+◌, ◌==◌, Bool, ◌||◌, if◌then◌else◌, List, [], ◌∷◌}

-- a space, a tab, a carriage return or a line feed
abbrev pub is_blank : ℕ → Bool
is_blank b = b == 32 || b == 9 || b == 13 || b == 10

abbrev mutual
  -- how many bytes of blanks and comments stand in front
  pub gap : List ℕ → ℕ
  gap [] = 0
  gap (b ∷ bs) = if is_blank b then 1 + gap bs else if b == 37 then 1 + comment bs else 0

  -- the same inside a comment, which ends with its line
  pub comment : List ℕ → ℕ
  comment [] = 0
  comment (b ∷ bs) = if b == 10 then 1 + gap bs else 1 + comment bs
