-- In the order that their types allow, each binder's type mentions older ones alone.
use Rattle.std.specs.Prelude.{ℕ, ◌+◌, ◌-◌, ◌≡◌, ◌≢◌, ◌<◌, ◌≤◌, ◌==◌, nat_lt, if◌then◌else◌, List, ◌∷◌, length, reverse, true, false, Bool, not, Contains, AllPairs, Some, None, Option}
use Rattle.std.specs.List.{position, position_or_len}
use Rattle.std.proofs.Common.{arith, ap, sym, ◌∙◌, subst, get_or, refl, eq-eqb, inl, inr}
use Rattle.std.proofs.lemmas.Bool.{cases_lt, eqb-true}
use borrow.Author.Tests.{ltb-true}
use Rattle.std.proofs.lemmas.List.Sums.{fails_before_first, prefix_len-le-length}
use Rattle.std.proofs.lemmas.Grind.{common_steps}
use Rattle.std.proofs.lemmas.List.{get_or-map, length-map, reverse-reverse}
use Rattle.std.proofs.lemmas.List.Elements.{Contains-get_or}
use Rattle.std.proofs.lemmas.List.Sorted.{Contains-permutation, IsPermutation-reverse}
use Rattle.std.proofs.lemmas.List.Quantifiers.{position-Some}
use Rattle.clf_syntax.specs.declared.tree.Head.{Head}
use Rattle.clf_syntax.specs.declared.tree.Head.TheVariants.{Const, Var, Meta}
use Rattle.celf_front.specs.InFront.{binder_at}
use Rattle.celf_front.specs.Mentions.{binder_in}
use Rattle.celf_front.specs.Fronted.{at_places}
use Rattle.front_laws.proofs.Raised.{none_found}

abbrev pub AreDistinct : List ℕ → Type 0
AreDistinct xs = AllPairs (λ x y. x ≢ y) xs

pub same_place : (xs : List ℕ) (p q : ℕ) → AreDistinct xs → p < length xs → q < length xs → get_or xs p 0 ≡ get_or xs q 0 → p ≡ q
same_place xs p q apart ltp ltq e = elim (cases_lt p q) [
  | inl less ↦ absurd (apart p q 0 less ltq e)
  | inr most ↦ elim (cases_lt q p) [ inl more ↦ absurd (apart q p 0 more ltp (sym e)) | inr least ↦ omega arith ]
]

pub in_reverse : (xs : List ℕ) (x : ℕ) → Contains (reverse xs) x → Contains xs x
in_reverse xs x has = subst (λ ys. Contains ys x) (reverse-reverse xs) (Contains-permutation (reverse xs) (reverse (reverse xs)) x (IsPermutation-reverse (reverse xs)) has)

-- A number at places of a list stands at one of them.
pub at_one : (binders places : List ℕ) (x : ℕ) → Contains (at_places binders places) x → (p : ℕ) × Contains places p × (get_or binders p 0 ≡ x)
at_one binders places x (k, lt, e) =
    let less : k < length places = rw length-map at lt in
    (get_or places k 0, Contains-get_or places k 0 less, sym (get_or-map (λ p. get_or binders p 0) places k 0 x less) ∙ e)

not_below : (c n : ℕ) → nat_lt c n ≡ false → n ≤ c
not_below c n is = elim (cases_lt c n) [ inl less ↦ absurd (let on : nat_lt c n ≡ true = grind arith in cc) | inr most ↦ most ]

-- Whoever is found stands in the list.
pub found_in : (n : ℕ) (binders : List ℕ) (h : Head) (j : ℕ) → binder_in n binders h ≡ Some j → (c : ℕ) × (h ≡ Const c) × (n ≤ c) × (j < length binders) × (get_or binders j 0 ≡ c - n)
found_in n binders (Const c) j e = from (nat_lt c n) refl e
  where
    from : (b : Bool) → nat_lt c n ≡ b → (if b then None else position (λ x. x == c - n) binders) ≡ Some j → (d : ℕ) × (Const c ≡ Const d) × (n ≤ d) × (j < length binders) × (get_or binders j 0 ≡ d - n)
    from true is f = absurd cc
    from false is f =
        let (lt, on, first) = position-Some (λ x. x == c - n) binders j 0 f in
        (c, refl, not_below c n is, lt, eqb-true (get_or binders j 0) (c - n) on)
found_in n binders (Var i) j e = absurd cc
found_in n binders (Meta m) j e = absurd cc

const_same : (c d : ℕ) → Const c ≡ Const d → c ≡ d
const_same c d e = cc

less : (n x : ℕ) → n + x - n ≡ x
less n x = omega arith

none_passes : (p : ℕ → Bool) (xs : List ℕ) → position p xs ≡ None → (k : ℕ) → k < length xs → p (get_or xs k 0) ≡ false
none_passes p xs none k lt =
    let whole = none_found (position_or_len p xs) (length xs) (prefix_len-le-length (λ x. not (p x)) xs) none in
    fails_before_first p xs k 0 (omega arith)

-- Who stands in the list, each once, is found at its place.
pub finds : (n : ℕ) (binders : List ℕ) (c p : ℕ) → AreDistinct binders → n ≤ c → p < length binders → get_or binders p 0 ≡ c - n → binder_in n binders (Const c) ≡ Some p
finds n binders c p apart most lt e = from (binder_in n binders (Const c)) refl
  where
    above : c < n → ⊥
    above l = omega arith

    searched : (b : Bool) → nat_lt c n ≡ b → (if b then None else position (λ x. x == c - n) binders) ≡ None → position (λ x. x == c - n) binders ≡ None
    searched true is f = absurd (above (ltb-true c n is))
    searched false is f = f

    not_none : binder_in n binders (Const c) ≡ None → ⊥
    not_none none = let off = none_passes (λ b. b == c - n) binders (searched (nat_lt c n) refl none) p lt in let on : (get_or binders p 0 == c - n) ≡ true = eq-eqb (get_or binders p 0) (c - n) e in cc

    from : (r : Option ℕ) → binder_in n binders (Const c) ≡ r → binder_in n binders (Const c) ≡ Some p
    from None is = absurd (not_none is)
    from (Some j) is = let (d, same, least, within, at) = found_in n binders (Const c) j is in is ∙ ap Some (same_place binders j p apart within lt (at ∙ ap (λ b. b - n) (sym (const_same c d same)) ∙ sym e))

pub found_first : (n x : ℕ) (older : List ℕ) → binder_at n (x ∷ older) (n + x) ≡ Some 0
found_first n x older = grind (arith, common_steps)

pub not_found : (n : ℕ) (binders : List ℕ) (x : ℕ) → (Contains binders x → ⊥) → binder_at n binders (n + x) ≡ None
not_found n binders x out = from (binder_at n binders (n + x)) refl
  where
    from : (r : Option ℕ) → binder_at n binders (n + x) ≡ r → binder_at n binders (n + x) ≡ None
    from None is = is
    from (Some j) is = let (d, same, least, within, at) = found_in n binders (Const (n + x)) j is in absurd (out (subst (Contains binders) (at ∙ ap (λ b. b - n) (sym (const_same (n + x) d same)) ∙ less n x) (Contains-get_or binders j 0 within)))
