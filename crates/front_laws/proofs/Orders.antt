-- What the order of binders gives: a place with those before it, and those that its type mentions.
use Rattle.std.specs.Prelude.{ℕ, ◌≡◌, ◌<◌, List, [], ◌∷◌, ◌++◌, suc, zero, length, Bool, Contains}
use Rattle.std.proofs.Common.{arith, ap, sym, subst, append_assoc}
use Rattle.std.proofs.lemmas.List.{append-nil}
use Rattle.std.proofs.lemmas.List.Elements.{Contains-append_left}
use Rattle.celf_elaboration.specs.Binders.{IsNext, PlacesRest, all_placed, places_next}

-- Each binder is in the order.
pub placed_all : (count : ℕ) (needs : ℕ → ℕ → Bool) (placed rest : List ℕ) → PlacesRest count needs placed rest → (q : ℕ) → q < count → (Contains (placed ++ rest) q → ⊥) → ⊥
placed_all count needs _ _ (all_placed {placed} none) q lt out = none q (lt, λ has. out (Contains-append_left placed [] q has))
placed_all count needs _ _ (places_next {placed} {rest} {i} next f) q lt out = placed_all count needs (placed ++ i ∷ []) rest f q lt (λ has. out (subst (λ qs. Contains qs q) (append_assoc placed (i ∷ []) rest) has))

-- At its turn a binder is the next one.
pub next_at : (count : ℕ) (needs : ℕ → ℕ → Bool) (placed before after : List ℕ) (q : ℕ) → PlacesRest count needs placed (before ++ q ∷ after) → IsNext count needs (placed ++ before) q
next_at count needs _ [] after q (places_next {placed} next f) = subst (λ ps. IsNext count needs ps q) (sym (append-nil placed)) next
next_at count needs _ (b ∷ before) after q (places_next {placed} next f) = subst (λ ps. IsNext count needs ps q) (append_assoc placed (b ∷ []) before) (next_at count needs (placed ++ b ∷ []) before after q f)

-- What is placed later is not placed before.
pub later_new : (count : ℕ) (needs : ℕ → ℕ → Bool) (placed rest : List ℕ) → PlacesRest count needs placed rest → (q : ℕ) → Contains rest q → Contains placed q → ⊥
later_new count needs _ _ (all_placed none) q (k, lt, e) has = absurd (omega arith)
later_new count needs _ _ (places_next {placed} {rest} {i} next f) q (zero, lt, e) has = next.unplaced.1 (subst (Contains placed) (sym e) has)
later_new count needs _ _ (places_next {placed} {rest} {i} next f) q (suc k, lt, e) has = later_new count needs (placed ++ i ∷ []) rest f q (k, omega arith, e) (Contains-append_left placed (i ∷ []) q has)

-- A list that has a number is what stands before it, the number, and the rest.
pub split_at : (xs : List ℕ) (x : ℕ) → Contains xs x → (before after : List ℕ) × (xs ≡ before ++ x ∷ after)
split_at [] x (k, lt, e) = absurd (let less : k < length {A = ℕ} [] = lt in omega arith)
split_at (y ∷ xs) x (zero, lt, e) = ([], xs, ap (λ z. z ∷ xs) e)
split_at (y ∷ xs) x (suc k, lt, e) = let (before, after, is) = split_at xs x (k, omega arith, e) in (y ∷ before, after, ap (λ zs. y ∷ zs) is)

pub rest_at : (count : ℕ) (needs : ℕ → ℕ → Bool) (placed before rest : List ℕ) → PlacesRest count needs placed (before ++ rest) → PlacesRest count needs (placed ++ before) rest
rest_at count needs placed [] rest f = subst (λ ps. PlacesRest count needs ps rest) (sym (append-nil placed)) f
rest_at count needs _ (b ∷ before) rest (places_next {placed} next f) = subst (λ ps. PlacesRest count needs ps rest) (append_assoc placed (b ∷ []) before) (rest_at count needs (placed ++ b ∷ []) before rest f)
