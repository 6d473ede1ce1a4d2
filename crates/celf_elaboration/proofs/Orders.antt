-- The order of binders is determined.
use Rattle.std.specs.Prelude.{ℕ, ◌≡◌, ◌<◌, ◌≤◌, Bool, List, [], ◌∷◌, ◌++◌, refl}
use Rattle.std.proofs.Common.{arith, subst, sym, ⊎_elim}
use Rattle.clf_syntax.proofs.RenamingLaws.{cut}
use Rattle.celf_elaboration.specs.Binders.{IsNext, PlacesRest, all_placed, places_next}
use Rattle.celf_elaboration.specs.Laws.{OrderIsOne}

conses : {i j : ℕ} {a b : List ℕ} → i ≡ j → a ≡ b → i ∷ a ≡ j ∷ b
conses e f = cc

between : (i j : ℕ) → j ≤ i → i ≤ j → i ≡ j
between i j h k = omega (arith, h, k)

module _ (count : ℕ) (needs : ℕ → ℕ → Bool) where
  one_next : (placed : List ℕ) (i j : ℕ) → IsNext count needs placed i → IsNext count needs placed j → i ≡ j
  one_next placed i j p q = ⊎_elim (λ h. absurd (q.first i h p.unplaced p.ready)) (λ h. ⊎_elim (λ k. absurd (p.first j k q.unplaced q.ready)) (λ k. between i j h k) (cut j i)) (cut i j)

  pub one_order : {placed a b : List ℕ} → PlacesRest count needs placed a → PlacesRest count needs placed b → a ≡ b
  one_order (all_placed n) (all_placed m) = refl
  one_order (all_placed n) (places_next {i = i} p r) = absurd (n i p.unplaced)
  one_order (places_next {i = i} p r) (all_placed m) = absurd (m i p.unplaced)
  one_order (places_next {placed = placed} {i = i} p r) (places_next {rest = rest} {i = j} q s) = let e = one_next placed i j p q in
      conses e (one_order r (subst (λ k. PlacesRest count needs (placed ++ k ∷ []) rest) (sym e) s))

pub order_is_one : OrderIsOne
order_is_one count needs a b p q = one_order count needs p q
