-- Whether a foreign local is a head at a rigid place, whether the metavariable itself stands there, and whether foreign locals can be taken away, is decided by one walk each,
use Rattle.std.specs.Prelude.{Bool, true, false, ◌≡◌, ◌⊎◌, [], ◌∷◌, ◌++◌, refl}
use Rattle.std.proofs.Common.{sym, subst, ◌∙◌, inl, inr, ⊎_elim, append_assoc}
use Rattle.clf_syntax.specs.declared.tree.Mode.{Mode}
use Rattle.clf_syntax.specs.declared.tree.Head.{Head}
use Rattle.clf_syntax.specs.Tree.{PlainObject, lam, pair, unit, monadic, atomic, hole, PlainNeutral, head_alone, app, fst, snd, head_of}
use Rattle.clf_syntax.specs.TypeTree.{SimpleType, arrow, simple_with}
use Rattle.clf_syntax.specs.Simple.{Assignment, extended, SimplyTyped, SimplyTypedNeutral, no_holes}
use Rattle.hered_subst.specs.TypedEnvironments.{is_metavariable}
use Rattle.pattern_laws.specs.Equations.{scoped, Locals}
use Rattle.pattern_laws.proofs.TypeParts.{from_type, to_type, first_type, second_type}
use Rattle.reach_laws.specs.Reach.{Standing, standing_here, standing_body, standing_left, standing_right, standing_below, StandingBelow, in_this, in_earlier, under_fst, under_snd}
use Rattle.subst_laws.proofs.Variables.{neutral_has_one_type}

-- where it is decided of a neutral whether it is a metavariable on distinct locals.

of_body : {g : Assignment} {es : Locals} {q : PlainNeutral} {c t : SimpleType} {m : Mode} {b : PlainObject} → Standing g es q c (lam m b) t → (d e : SimpleType) × (fs : Locals) × (t ≡ arrow m d e) × (es ≡ fs ++ (m, d) ∷ []) × Standing (extended d g) fs q c b e
of_body (standing_body {ds = fs} {d = d} {e = e} s) = (d, e, fs, refl, refl, s)

of_pair : {g : Assignment} {es : Locals} {q : PlainNeutral} {c t : SimpleType} {l r : PlainObject} → Standing g es q c (pair l r) t → (d e : SimpleType) × (t ≡ simple_with d e) × (Standing g es q c l d ⊎ Standing g es q c r e)
of_pair (standing_left {d = d} {e = e} s) = (d, e, refl, inl s)
of_pair (standing_right {d = d} {e = e} s) = (d, e, refl, inr s)

of_unit : {g : Assignment} {es : Locals} {q : PlainNeutral} {c t : SimpleType} → Standing g es q c unit t → ⊥
of_unit s = elim s [ ]

of_hole : {g : Assignment} {es : Locals} {q : PlainNeutral} {c t : SimpleType} → Standing g es q c hole t → ⊥
of_hole s = elim s [ ]

of_app : {g : Assignment} {es : Locals} {q r : PlainNeutral} {c : SimpleType} {m : Mode} {o : PlainObject} → StandingBelow g es q c (app m r o) → ((d e : SimpleType) × SimplyTypedNeutral g r (arrow m d e) × Standing g es q c o d) ⊎ StandingBelow g es q c r
of_app (in_this {d = d} e p s) = inl (d, e, p, s)
of_app (in_earlier s) = inr s

of_fst : {g : Assignment} {es : Locals} {q r : PlainNeutral} {c : SimpleType} → StandingBelow g es q c (fst r) → StandingBelow g es q c r
of_fst (under_fst s) = s

of_snd : {g : Assignment} {es : Locals} {q r : PlainNeutral} {c : SimpleType} → StandingBelow g es q c (snd r) → StandingBelow g es q c r
of_snd (under_snd s) = s

of_bare : {g : Assignment} {es : Locals} {q : PlainNeutral} {c : SimpleType} {h : Head} → StandingBelow g es q c (head_alone h) → ⊥
of_bare s = elim s [ ]

-- A property of what stands at a rigid place: of the binders on the way to it, all binders counted, of the neutral and its type.
module _ (base : Assignment) (ls : Locals) (P : Locals → PlainNeutral → SimpleType → Type 0) (decide : (ds : Locals) (q : PlainNeutral) (c : SimpleType) → SimplyTypedNeutral (scoped (ds ++ ls) base) q c → P ds q c ⊎ (P ds q c → ⊥)) where
  abbrev pub Some_at : Locals → PlainObject → SimpleType → Type 0
  Some_at ds x t = (es : Locals) × (q : PlainNeutral) × (c : SimpleType) × Standing (scoped (ds ++ ls) base) es q c x t × P (es ++ ds) q c

  abbrev pub Some_below : Locals → PlainNeutral → Type 0
  Some_below ds n = (es : Locals) × (q : PlainNeutral) × (c : SimpleType) × StandingBelow (scoped (ds ++ ls) base) es q c n × P (es ++ ds) q c

  moved : (fs ds : Locals) (d : Mode × SimpleType) → fs ++ d ∷ ds ≡ (fs ++ d ∷ []) ++ ds
  moved fs ds d = sym (append_assoc fs (d ∷ []) ds)

  -- an atomic object: the neutral itself, or in an argument of it, where its head is no metavariable
  atomic_cases : (ds : Locals) (n : PlainNeutral) (t : SimpleType) → P ds n t ⊎ (P ds n t → ⊥) → (is_metavariable (head_of n) ≡ false → Some_below ds n ⊎ (Some_below ds n → ⊥)) → Some_at ds (atomic n) t ⊎ (Some_at ds (atomic n) t → ⊥)
  atomic_cases ds n t own below = ⊎_elim (λ p. inl ([], n, t, standing_here, p)) (λ f. of (is_metavariable (head_of n)) refl f) own
    where
      of_atomic : {es : Locals} {q : PlainNeutral} {c : SimpleType} → Standing (scoped (ds ++ ls) base) es q c (atomic n) t → ((es ≡ []) × (q ≡ n) × (c ≡ t)) ⊎ ((is_metavariable (head_of n) ≡ false) × StandingBelow (scoped (ds ++ ls) base) es q c n)
      of_atomic standing_here = inl (refl, refl, refl)
      of_atomic (standing_below e s) = inr (e, s)

      own_place : (es : Locals) (q : PlainNeutral) (c : SimpleType) → (es ≡ []) × (q ≡ n) × (c ≡ t) → P (es ++ ds) q c → P ds n t
      own_place es q c a p = subst (λ fs. P (fs ++ ds) n t) a.0 (subst (λ r. P (es ++ ds) r t) a.1 (subst (λ b. P (es ++ ds) q b) a.2 p))

      of : (b : Bool) → is_metavariable (head_of n) ≡ b → (P ds n t → ⊥) → Some_at ds (atomic n) t ⊎ (Some_at ds (atomic n) t → ⊥)
      of true e f = inr (λ a. let (es, q, c, s, p) = a in ⊎_elim (λ u. f (own_place es q c u p)) (λ u. never (sym e ∙ u.0)) (of_atomic s))
        where
          never : true ≡ false → ⊥
          never e = cc
      of false e f = ⊎_elim
          (λ a. let (es, q, c, s, p) = a in inl (es, q, c, standing_below e s, p))
          (λ h. inr (λ a. let (es, q, c, s, p) = a in ⊎_elim (λ u. f (own_place es q c u p)) (λ u. h (es, q, c, u.1, p)) (of_atomic s)))
          (below e)

  mutual
    pub decide_at : (x : PlainObject) (ds : Locals) (t : SimpleType) → SimplyTyped (scoped (ds ++ ls) base) x t → Some_at ds x t ⊎ (Some_at ds x t → ⊥)
    decide_at (lam m b) ds t (d, c, e, p) = ⊎_elim
        (λ a. let (es, q, k, s, h) = a in inl (es ++ (m, d) ∷ [], q, k, subst (Standing (scoped (ds ++ ls) base) (es ++ (m, d) ∷ []) q k (lam m b)) (sym e) (standing_body s), subst (λ l. P l q k) (moved es ds (m, d)) h))
        (λ f. inr (λ a. let (es, q, k, s, h) = a in let (d', e', fs, u, v, w) = of_body s in f (
          fs,
          q,
          k,
          subst (λ y. Standing (extended y (scoped (ds ++ ls) base)) fs q k b c) (from_type (sym e ∙ u)) (subst (λ y. Standing (extended d' (scoped (ds ++ ls) base)) fs q k b y) (to_type (sym e ∙ u)) w),
          subst (λ y. P (fs ++ (m, y) ∷ ds) q k) (from_type (sym e ∙ u)) (subst (λ l. P l q k) (sym (moved fs ds (m, d'))) (subst (λ l. P (l ++ ds) q k) v h)),
        )))
        (decide_at b ((m, d) ∷ ds) c p)
    decide_at (pair l r) ds t (c, d, e, p, o) = ⊎_elim
        (λ a. let (es, q, k, s, h) = a in inl (es, q, k, subst (Standing (scoped (ds ++ ls) base) es q k (pair l r)) (sym e) (standing_left s), h))
        (λ f. ⊎_elim
        (λ a. let (es, q, k, s, h) = a in inl (es, q, k, subst (Standing (scoped (ds ++ ls) base) es q k (pair l r)) (sym e) (standing_right s), h))
        (λ g. inr (λ a. let (es, q, k, s, h) = a in let (c', d', u, w) = of_pair s in ⊎_elim
        (λ s. f (es, q, k, subst (Standing (scoped (ds ++ ls) base) es q k l) (first_type (sym e ∙ u)) s, h))
        (λ s. g (es, q, k, subst (Standing (scoped (ds ++ ls) base) es q k r) (second_type (sym e ∙ u)) s, h)) w))
        (decide_at r ds d o))
        (decide_at l ds c p)
    decide_at unit ds t p = inr (λ a. of_unit a.3)
    decide_at (monadic e) ds t p = inr (λ a. none a.3)
      where
        none : {es : Locals} {q : PlainNeutral} {c : SimpleType} → Standing (scoped (ds ++ ls) base) es q c (monadic e) t → ⊥
        none s = elim s [ ]
    decide_at (atomic n) ds t p = atomic_cases ds n t (decide ds n t p.1) (λ e. decide_below n ds t p.1)
    decide_at hole ds t p = inr (λ a. of_hole a.3)

    pub decide_below : (n : PlainNeutral) (ds : Locals) (t : SimpleType) → SimplyTypedNeutral (scoped (ds ++ ls) base) n t → Some_below ds n ⊎ (Some_below ds n → ⊥)
    decide_below (head_alone h) ds t p = inr (λ a. of_bare a.3)
    decide_below (app m r o) ds t p = ⊎_elim
        (λ a. let (es, q, k, s, h) = a in inl (es, q, k, in_earlier s, h))
        (λ f. ⊎_elim
        (λ a. let (es, q, k, s, h) = a in inl (es, q, k, in_this t p.1 s, h))
        (λ g. inr (λ a. let (es, q, k, s, h) = a in ⊎_elim
        (λ u. g (es, q, k, subst (Standing (scoped (ds ++ ls) base) es q k o) (from_type (neutral_has_one_type (no_holes true) (scoped (ds ++ ls) base) r (arrow m p.0 t) (arrow m u.0 u.1) p.1 u.2)) u.3, h))
        (λ u. f (es, q, k, u, h)) (of_app s)))
        (decide_at o ds p.0 p.2))
        (decide_below r ds (arrow m p.0 t) p.1)
    decide_below (fst r) ds t p = ⊎_elim (λ a. let (es, q, k, s, h) = a in inl (es, q, k, under_fst s, h)) (λ f. inr (λ a. let (es, q, k, s, h) = a in f (es, q, k, of_fst s, h))) (decide_below r ds (simple_with t p.0) p.1)
    decide_below (snd r) ds t p = ⊎_elim (λ a. let (es, q, k, s, h) = a in inl (es, q, k, under_snd s, h)) (λ f. inr (λ a. let (es, q, k, s, h) = a in f (es, q, k, of_snd s, h))) (decide_below r ds (simple_with p.0 t) p.1)
