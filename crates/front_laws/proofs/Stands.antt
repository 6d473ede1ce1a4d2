-- In the order that their types allow each binder has its variable.
use Rattle.std.specs.Prelude.{ℕ, ◌+◌, ◌-◌, ◌≡◌, ◌<◌, ◌≤◌, List, [], ◌∷◌, ◌++◌, suc, zero, length, map, reverse, Contains, Some, None, Option}
use Rattle.std.specs.List.{slice_get}
use Rattle.std.proofs.Common.{arith, ap, sym, ◌∙◌, subst, get_or, refl, append_assoc, ◌⊎◌, inl, inr}
use Rattle.std.proofs.lemmas.Bool.{cases_eq}
use Rattle.std.proofs.lemmas.List.{get_or_default, map-append, reverse-append}
use Rattle.std.proofs.lemmas.List.Elements.{Contains-append_right, Contains-push, Contains-append_cases, Contains-get_or}
use Rattle.std.proofs.lemmas.Option.{get_or_from_slice_get}
use Rattle.clf_syntax.specs.declared.tree.Head.TheVariants.{Const, Var}
use Rattle.clf_syntax.specs.TypeTree.{PlainType, top}
use Rattle.use_contexts.specs.Context.{Context}
use Rattle.celf_elaboration.specs.Binders.{IsOrder, PlacesRest}
use Rattle.hered_subst.specs.Substitution.{keep}
use Rattle.celf_front.specs.declared.needs.Needs.{Needs}
use Rattle.celf_front.specs.Needs.{mentions}
use Rattle.celf_front.specs.InFront.{binder_at, bound_head}
use Rattle.celf_front.specs.Mentions.{binder_in, AreNeeds, binder_type_at}
use Rattle.celf_front.specs.Occurring.{heads_in_type}
use Rattle.celf_front.specs.Fronted.{at_places}
use Rattle.celf_front.specs.UnderFront.{IsFront}
use Rattle.celf_front.proofs.Orders.{rest_within}
use Rattle.front_laws.specs.Laws.{MentionsNone, IsVariableOf, BindersStand}
use Rattle.front_laws.proofs.Raised.{binder_past, past}
use Rattle.front_laws.proofs.Variables.{binders_have_variables}
use Rattle.front_laws.proofs.Orders.{placed_all, next_at, later_new, split_at, rest_at}
use Rattle.front_laws.proofs.Standing.{AreDistinct, same_place, in_reverse, at_one, found_in, finds, found_first, not_found}

tail_has : (y : ℕ) (xs : List ℕ) (x : ℕ) → (y ≡ x → ⊥) → (k : ℕ) → k < length (y ∷ xs) → get_or (y ∷ xs) k x ≡ x → Contains xs x
tail_has y xs x other zero lt e = absurd (other e)
tail_has y xs x other (suc k) lt e = (k, omega arith, e)

only_one : (x y : ℕ) (k : ℕ) → k < length (x ∷ []) → get_or (x ∷ []) k y ≡ y → x ≡ y
only_one x y zero lt e = e
only_one x y (suc k) lt e = absurd (omega arith)

decide : (xs : List ℕ) (x : ℕ) → Contains xs x ⊎ (Contains xs x → ⊥)
decide [] x = inr (λ has. absurd (let lt : has.0 < length {A = ℕ} [] = has.1 in omega arith))
decide (y ∷ xs) x = elim (cases_eq y x) [
  | inl e ↦ inl (0, omega arith, e)
  | inr other ↦ elim (decide xs x) [
    | inl has ↦ inl (suc has.0, omega (arith, has.1), has.2)
    | inr out ↦ inr (λ has. out (tail_has y xs x other has.0 has.1 has.2))
  ]
]

-- the binders in front, the newest first, around the one at place q
around : (binders before after : List ℕ) (q : ℕ) → reverse (at_places binders (before ++ q ∷ after)) ≡ reverse (at_places binders after) ++ get_or binders q 0 ∷ reverse (at_places binders before)
around binders before after q =
    let f = λ (p : ℕ). get_or binders p 0 in
    ap (λ (xs : List ℕ). reverse xs) (map-append f before (q ∷ after))
    ∙ reverse-append (map f before) (f q ∷ map f after)
    ∙ ap (λ xs. xs ++ reverse (map f before)) (reverse-append (f q ∷ []) (map f after))
    ∙ append_assoc (reverse (map f after)) (f q ∷ []) (reverse (map f before))

-- one that is placed from here on, by its number
from_here : (binders after : List ℕ) (q y : ℕ) → Contains (reverse (at_places binders after) ++ get_or binders q 0 ∷ []) y → (p : ℕ) × Contains (q ∷ after) p × (get_or binders p 0 ≡ y)
from_here binders after q y has = elim (Contains-append_cases (reverse (at_places binders after)) (get_or binders q 0 ∷ []) y has) [
  | inl later ↦ let (p, there, e) = at_one binders after y (in_reverse (at_places binders after) y later) in (p, Contains-append_right (q ∷ []) after p there, e)
  | inr own ↦ (q, (0, omega arith, refl), only_one (get_or binders q 0) y own.0 own.1 own.2)
]

-- The type mentions neither the binder itself nor one that is placed later.
mentions_none : (n : ℕ) (types : List PlainType) (binders : List ℕ) (t : Needs) (before after : List ℕ) (q : ℕ) → AreNeeds n types binders t → AreDistinct binders → q < length binders
    → IsOrder (length binders) (mentions t) (before ++ q ∷ after) → ((k : ℕ) → Contains (q ∷ after) k → k < length binders) → MentionsNone n (reverse (at_places binders after) ++ get_or binders q 0 ∷ []) (binder_type_at types binders q)
mentions_none n types binders t before after q needs apart lt order within h has = from (binder_in n (reverse (at_places binders after) ++ get_or binders q 0 ∷ []) h) refl
  where
    earlier : (p c : ℕ) → Contains (q ∷ after) p → get_or binders p 0 ≡ c - n → n ≤ c → h ≡ Const c → ⊥
    earlier p c there e least same =
        let found = finds n binders c p apart least (within p there) e in
        let on = needs.marked q p lt (Const c, subst (Contains (heads_in_type (binder_type_at types binders q))) same has, found) in
        let next = next_at (length binders) (mentions t) [] before after q order in
        later_new (length binders) (mentions t) before (q ∷ after) (rest_at (length binders) (mentions t) [] before (q ∷ after) order) p there (next.ready p (within p there) on)

    from : (r : Option ℕ) → binder_in n (reverse (at_places binders after) ++ get_or binders q 0 ∷ []) h ≡ r → binder_in n (reverse (at_places binders after) ++ get_or binders q 0 ∷ []) h ≡ None
    from None is = is
    from (Some j) is =
        let (c, same, least, ltj, at) = found_in n (reverse (at_places binders after) ++ get_or binders q 0 ∷ []) h j is in
        let (p, there, e) = from_here binders after q (c - n) (subst (Contains (reverse (at_places binders after) ++ get_or binders q 0 ∷ [])) at (Contains-get_or (reverse (at_places binders after) ++ get_or binders q 0 ∷ []) j 0 ltj)) in
        absurd (earlier p c there e least same)

stands_at : (n : ℕ) (types : List PlainType) (binders : List ℕ) (t : Needs) (before after : List ℕ) (q : ℕ) (front : Context) (a : PlainType) → AreNeeds n types binders t → AreDistinct binders → q < length binders
    → IsOrder (length binders) (mentions t) (before ++ q ∷ after) → ((k : ℕ) → Contains (q ∷ after) k → k < length binders) → IsFront n types (reverse (at_places binders (before ++ q ∷ after))) front
    → slice_get types (get_or binders q 0) ≡ Some a → IsVariableOf n (reverse (at_places binders (before ++ q ∷ after))) front (get_or binders q 0) a
stands_at n types binders t before after q front a needs apart lt order within is at =
    let x = get_or binders q 0 in
    let newer = reverse (at_places binders after) in
    let older = reverse (at_places binders before) in
    let whole = around binders before after q in
    let none = subst (MentionsNone n (newer ++ x ∷ [])) (get_or_from_slice_get types x a top at) (mentions_none n types binders t before after q needs apart lt order within) in
    let (made, variable, carried) = binders_have_variables n types newer older x a front (subst (λ bs. IsFront n types bs front) whole is) at none in
    let rest = rest_at (length binders) (mentions t) [] (before ++ q ∷ []) after (subst (PlacesRest (length binders) (mentions t) []) (sym (append_assoc before (q ∷ []) after)) order) in
    let out : Contains newer x → ⊥ = λ has. (let (p, there, e) = at_one binders after x (in_reverse (at_places binders after) x has) in
    later_new (length binders) (mentions t) (before ++ q ∷ []) after rest q (subst (Contains after) (same_place binders p q apart (within p (Contains-append_right (q ∷ []) after p there)) lt e) there) (Contains-push before q)) in
    let found : binder_at n (newer ++ x ∷ older) (n + x) ≡ Some (length newer + 0)
    = binder_past n (n + x) newer (x ∷ older) (not_found n newer x out) ∙ ap (past (length newer)) (found_first n x older) in
    let number : length newer + 0 + 0 ≡ length newer = omega arith in
    subst (λ bs. IsVariableOf n bs front x a) (sym whole) (record {
      number = length newer;
      type = made;
      put = ap (λ r. keep (bound_head (n + x) r 0)) found ∙ ap (λ k. keep (Var k)) number;
      variable = variable;
      carried = carried;
    })

pub binders_stand : BindersStand
binders_stand n types binders class answer i x a apart has at =
    let (q, lt, e) = has in
    let here : get_or binders q 0 ≡ x = get_or_default binders q 0 x lt ∙ e in
    let placed : Contains i.order q = elim (decide i.order q) [ inl there ↦ there | inr out ↦ absurd (placed_all (length binders) (mentions i.needs) [] i.order i.is_order q lt out) ] in
    let (before, after, is) = split_at i.order q placed in
    let within : (k : ℕ) → Contains i.order k → k < length binders
    = λ k (p, less, f). rw (← (get_or_default i.order p 0 k less ∙ f)) (rest_within (length binders) (mentions i.needs) [] i.order i.is_order p less) in
    let whole = stands_at n types binders i.needs before after q i.under.front a i.are_needs apart lt (subst (IsOrder (length binders) (mentions i.needs)) is i.is_order)
    (λ k there. within k (subst (λ o. Contains o k) (sym is) (Contains-append_right before (q ∷ after) k there)))
    (subst (λ o. IsFront n types (reverse (at_places binders o)) i.under.front) is i.under.binders) (rw here at) in
    subst (λ y. IsVariableOf n (reverse (at_places binders i.order)) i.under.front y a) here (subst (λ o. IsVariableOf n (reverse (at_places binders o)) i.under.front (get_or binders q 0) a) (sym is) whole)
