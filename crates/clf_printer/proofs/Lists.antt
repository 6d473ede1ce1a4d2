-- A list from one place on, and lists written one after the other.
use Rattle.std.proofs.Common.{◌≡◌, ℕ, ◌+◌, ◌<◌, List, ◌∷◌, ◌++◌, [], length, take, get_or, append_assoc, sym, ◌∙◌, ap}
use Rattle.std.proofs.lemmas.List.{take_more}

pub taken : {X : Type 0} (xs : List X) (i : ℕ) (x : X) → i < length xs → x ≡ get_or xs i x → take (i + 1) xs ≡ take i xs ++ x ∷ []
taken xs i x h e = take_more xs i x h ∙ ap (λ y. take i xs ++ y ∷ []) (sym e)

-- two pieces after a text, in turn
pub joined : (o a b : List ℕ) {p q : List ℕ} → p ≡ o ++ a → q ≡ p ++ b → q ≡ o ++ (a ++ b)
joined o a b u v = v ∙ ap (λ l. l ++ b) u ∙ append_assoc o a b
