-- Inner: the first bytes of variables with their numbers, and these in order.
use Rattle.std.specs.Prelude.{ℕ, ◌+◌, ◌≡◌, List, [], ◌∷◌, map, option_map, unwrap_or}
use Rattle.std.specs.List.{find}
use Rattle.std.specs.List.Sorted.{IsPermutation, IsNonDecreasingBy}
use Rattle.celf_implicit.specs.declared.appearance.First.{First}
use Rattle.celf_implicit.specs.Variables.{PlainImplicit, has_name}
use Rattle.celf_implicit.specs.Rounds.{start}

-- the byte of the first of these with the name; 0 where there is none
abbrev pub byte_in : List PlainImplicit → List ℕ → ℕ
byte_in ys name = unwrap_or (option_map start (find (has_name name) ys)) 0

abbrev pub bytes_in : List PlainImplicit → List PlainImplicit → List ℕ
bytes_in ys xs = map (λ x. byte_in ys x.name) xs

-- with numbers from k on
abbrev pub numbered : ℕ → List ℕ → List First
numbered k [] = []
numbered k (b ∷ bs) = record { byte = b; number = k } ∷ numbered (k + 1) bs

-- the numbers, by bytes
pub record AreByBytes (firsts : List First) (order : List ℕ) : Type 0 where
  pub sorted : List First
  pub same : IsPermutation firsts sorted
  pub rising : IsNonDecreasingBy (λ (f : First). f.byte) sorted
  pub numbers : order ≡ map (λ (f : First). f.number) sorted
