-- What the tests answer makes an equation stuck, or not.
use Rattle.std.specs.Prelude.{ℕ, ◌≡◌, ◌⊎◌, ◌↔◌, IsTrue, Bool, true, refl}
use Rattle.std.proofs.Common.{ap, subst, ◌∙◌, ⊎_elim, inl, inr}
use Rattle.clf_syntax.specs.Tree.{PlainObject, lam, pair, unit, monadic, atomic, hole, PlainExpression}
use Rattle.clf_syntax.specs.TypeTree.{SimpleType}
use Rattle.clf_syntax.specs.Simple.{SimplyTyped}
use Rattle.clf_syntax.proofs.OccursLaws.{not_both}
use Rattle.store_laws.specs.Mentions.{mentions}
use Rattle.pattern_laws.specs.Instantiations.{Types, closed}
use Rattle.pattern_laws.specs.Equations.{Locals, scoped, Equation}
use Rattle.reach_laws.specs.Reach.{Reaches, IsFlexible, Stuck, StuckMonadic}
use Rattle.reach_walk.specs.Answers.{IsClash}
use Rattle.reach_walk.proofs.OneReading.{stands_final}
use Rattle.reach_walk.proofs.Reaching.{clash_reaches, same_reaches, prune_reaches, assign_reaches}
use Rattle.celf_constraints.specs.Reading.{plain_places, own_places}
use Rattle.celf_reach.specs.declared.answer.Reach.{Reach}
use Rattle.celf_reach.specs.declared.answer.Reach.TheVariants.{No, Clash, Same, Prune, Assign}
use Rattle.celf_reach.specs.Answered.{Answers}
use Rattle.celf_reach.specs.Mentioned.{mentions_some}
use Rattle.celf_reach.specs.Stuckness.{is_in_reach, is_flexible, is_monadic}
use Rattle.celf_reach.proofs.Mentioning.{number_in, some_in}

-- ---- the answers

module _ (constants metas : Types) (ls : Locals) (a : SimpleType) (side other : PlainObject) (typed : SimplyTyped (scoped ls (closed constants metas)) side a) where
  clash_in_reach : IsClash (closed constants metas) ls a side other → Reaches (closed constants metas) ls a side other
  clash_in_reach c = clash_reaches constants metas ls a side other
      (stands_final (scoped ls (closed constants metas)) c.pattern.neutral a (subst (λ x. SimplyTyped (scoped ls (closed constants metas)) x a) c.pattern.is_neutral typed)) c

  in_reach : (r : Reach) → Answers (closed constants metas) ls a side other r → is_in_reach r ≡ true → Reaches (closed constants metas) ls a side other
  in_reach No h e = absurd (cc)
  in_reach Clash h e = clash_in_reach h
  in_reach (Same mask) h e = same_reaches constants metas ls a side other mask.items h
  in_reach (Prune k mask) h e = prune_reaches constants metas ls a side other k mask.items h
  in_reach (Assign p) h e = assign_reaches constants metas ls a side other p.meta (plain_places p) (own_places p) h

  said_in_reach : (r : Reach) → Answers (closed constants metas) ls a side other r → Reaches (closed constants metas) ls a side other → is_in_reach r ≡ true
  said_in_reach No h e = absurd (h e)
  said_in_reach Clash h e = refl
  said_in_reach (Same mask) h e = refl
  said_in_reach (Prune k mask) h e = refl
  said_in_reach (Assign p) h e = refl

  -- The answer says whether the side reaches the other.
  pub reach_told : (r : Reach) → Answers (closed constants metas) ls a side other r → IsTrue (is_in_reach r) ↔ Reaches (closed constants metas) ls a side other
  reach_told r h = (in_reach r h, said_in_reach r h)

-- ---- the forms of the sides

flexible_form : (o : PlainObject) → is_flexible o ≡ true → IsFlexible o
flexible_form (lam m b) e = absurd (cc)
flexible_form (pair l r) e = absurd (cc)
flexible_form unit e = absurd (cc)
flexible_form (monadic f) e = absurd (cc)
flexible_form (atomic n) e = (n, refl, e)
flexible_form hole e = absurd (cc)

flexible_said : (o : PlainObject) → IsFlexible o → is_flexible o ≡ true
flexible_said o p = ap is_flexible p.1 ∙ p.2

monadic_form : (o : PlainObject) → is_monadic o ≡ true → (f : PlainExpression) × (o ≡ monadic f)
monadic_form (lam m b) e = absurd (cc)
monadic_form (pair l r) e = absurd (cc)
monadic_form unit e = absurd (cc)
monadic_form (monadic f) e = (f, refl)
monadic_form (atomic n) e = absurd (cc)
monadic_form hole e = absurd (cc)

monadic_said : (o : PlainObject) → (f : PlainExpression) × (o ≡ monadic f) → is_monadic o ≡ true
monadic_said o p = ap is_monadic p.1

-- A monadic object has no head.
no_head : (o : PlainObject) → (f : PlainExpression) × (o ≡ monadic f) → is_flexible o ≡ true → ⊥
no_head o p e = not_both e (ap is_flexible p.1)

abbrev pub HasFlexible : Equation → Type 0
HasFlexible e = (is_flexible e.left ≡ true) ⊎ (is_flexible e.right ≡ true)

not_monadic : (e : Equation) → HasFlexible e → StuckMonadic e → ⊥
not_monadic e h m = ⊎_elim (no_head e.left m.left) (no_head e.right m.right) h

-- ---- with a metavariable as the head of a side

module _ (constants metas : Types) (e : Equation) (b : Bool) where
  pub stuck_apart : HasFlexible e
      → (IsTrue b ↔ ((Reaches (closed constants metas) e.locals e.type e.left e.right → ⊥) × (Reaches (closed constants metas) e.locals e.type e.right e.left → ⊥)))
      → IsTrue b ↔ Stuck constants metas e
  stuck_apart h p = (
    λ t. let (l, r) = p.0 t in inl (record { flexible = ⊎_elim (λ f. inl (flexible_form e.left f)) (λ f. inr (flexible_form e.right f)) h; not_left = l; not_right = r }),
    λ s. ⊎_elim (λ f. p.1 (f.not_left, f.not_right)) (λ m. absurd (not_monadic e h m)) s,
  )

  -- ---- and without

  mentioned_in : (mentions_some e.left ≡ true) ⊎ (mentions_some e.right ≡ true) → (k : ℕ) × ((mentions k e.left ≡ true) ⊎ (mentions k e.right ≡ true))
  mentioned_in h = ⊎_elim (λ f. let (k, m) = number_in e.left f in (k, inl m)) (λ f. let (k, m) = number_in e.right f in (k, inr m)) h

  mentioned_said : (k : ℕ) × ((mentions k e.left ≡ true) ⊎ (mentions k e.right ≡ true)) → (mentions_some e.left ≡ true) ⊎ (mentions_some e.right ≡ true)
  mentioned_said p = ⊎_elim (λ m. inl (some_in p.0 e.left m)) (λ m. inr (some_in p.0 e.right m)) p.1

  pub stuck_monadic : (HasFlexible e → ⊥)
      → (IsTrue b ↔ ((is_monadic e.left ≡ true) × (is_monadic e.right ≡ true) × ((mentions_some e.left ≡ true) ⊎ (mentions_some e.right ≡ true))))
      → IsTrue b ↔ Stuck constants metas e
  stuck_monadic h p = (
    λ t. let (l, r, m) = p.0 t in inr (record { left = monadic_form e.left l; right = monadic_form e.right r; mentioned = mentioned_in m }),
    λ s. ⊎_elim
        (λ f. absurd (h (⊎_elim (λ i. inl (flexible_said e.left i)) (λ i. inr (flexible_said e.right i)) f.flexible)))
        (λ m. p.1 (monadic_said e.left m.left, monadic_said e.right m.right, mentioned_said m.mentioned)) s,
  )
