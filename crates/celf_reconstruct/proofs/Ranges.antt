-- Numbers in order, one after the other.
use Rattle.std.proofs.Common.{ℕ, zero, suc, ◌+◌, ◌-◌, ◌≡◌, ◌<◌, ◌++◌, ◌∙◌, refl, ap, List, [], ◌∷◌, append_assoc, arith}
use Rattle.std.specs.List.{range_with_len}

from_first : (a n : ℕ) → range_with_len a (suc n) ≡ a ∷ range_with_len (a + 1) n
from_first a n = refl

-- What is listed goes on with the next number.
pub range_next : (all more whole : List ℕ) (a b : ℕ) → a < b → more ≡ all ++ a ∷ [] → all ++ range_with_len a (b - a) ≡ whole → more ++ range_with_len (a + 1) (b - (a + 1)) ≡ whole
range_next all more whole a b l m e =
    let size : b - a ≡ suc (b - (a + 1)) = omega arith in
    ap (λ (xs : List ℕ). xs ++ range_with_len (a + 1) (b - (a + 1))) m ∙ append_assoc all (a ∷ []) (range_with_len (a + 1) (b - (a + 1))) ∙ (rw size at e)
