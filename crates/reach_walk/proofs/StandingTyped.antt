-- What stands at a rigid place of a typed object is typed there.
use Rattle.std.specs.Prelude.{ℕ, true, false, ◌≡◌, ◌⊎◌, [], ◌∷◌, ◌++◌, refl}
use Rattle.std.proofs.Common.{ap, sym, subst, inl, inr, ⊎_elim}
use Rattle.clf_syntax.specs.declared.tree.Mode.{Mode}
use Rattle.clf_syntax.specs.Tree.{PlainObject, atomic, PlainNeutral, head_of}
use Rattle.clf_syntax.specs.TypeTree.{SimpleType, base, arrow, simple_with, lax, SimpleTelescope}
use Rattle.clf_syntax.specs.Simple.{Assignment, extended, SimplyTyped, SimplyTypedNeutral, no_holes}
use Rattle.clf_syntax.proofs.OccursLaws.{or_first, or_second}
use Rattle.hered_subst.specs.TypedEnvironments.{is_metavariable}
use Rattle.store_laws.specs.Mentions.{mentions, mentions_neutral}
use Rattle.subst_laws.proofs.Variables.{neutral_has_one_type}
use Rattle.pattern_laws.specs.Equations.{scoped, Locals}
use Rattle.pattern_laws.specs.Patterns.{IsFinal}
use Rattle.reach_laws.specs.Reach.{Standing, standing_here, standing_body, standing_left, standing_right, standing_below, StandingBelow, in_this, in_earlier, under_fst, under_snd}

from_type : {m k : Mode} {d c e f : SimpleType} → arrow m d c ≡ arrow k e f → e ≡ d
from_type h = cc

to_type : {m k : Mode} {d c e f : SimpleType} → arrow m d c ≡ arrow k e f → f ≡ c
to_type h = cc

first_type : {a b c d : SimpleType} → simple_with a b ≡ simple_with c d → c ≡ a
first_type h = cc

second_type : {a b c d : SimpleType} → simple_with a b ≡ simple_with c d → d ≡ b
second_type h = cc

scoped_append : (ds es : Locals) (g : Assignment) → scoped (ds ++ es) g ≡ scoped ds (scoped es g)
scoped_append [] es g = refl
scoped_append (d ∷ ds) es g = ap (extended d.1) (scoped_append ds es g)

mutual
  pub standing_typed : {g : Assignment} {es : Locals} {q : PlainNeutral} {c t : SimpleType} {o : PlainObject} → Standing g es q c o t → SimplyTyped g o t → SimplyTyped (scoped es g) (atomic q) c
  standing_typed standing_here p = p
  standing_typed (standing_body {g = g} {ds = ds} {q = q} {c = c} {d = d} {e = e} {m = m} {b = b} s) p =
      subst (λ z. SimplyTyped z (atomic q) c) (sym (scoped_append ds ((m, d) ∷ []) g))
      (standing_typed s (subst (λ y. SimplyTyped (extended y g) b e) (from_type p.2) (subst (λ y. SimplyTyped (extended p.0 g) b y) (to_type p.2) p.3)))
  standing_typed (standing_left {g = g} {l = l} s) p = standing_typed s (subst (SimplyTyped g l) (first_type p.2) p.3)
  standing_typed (standing_right {g = g} {r = r} s) p = standing_typed s (subst (SimplyTyped g r) (second_type p.2) p.4)
  standing_typed (standing_below {t = t} e s) p = below_typed s t p.1

  pub below_typed : {g : Assignment} {es : Locals} {q n : PlainNeutral} {c : SimpleType} → StandingBelow g es q c n → (t : SimpleType) → SimplyTypedNeutral g n t → SimplyTyped (scoped es g) (atomic q) c
  below_typed (in_this {g = g} {r = r} {d = d} {m = m} {o = o} e i s) t p = standing_typed s (subst (SimplyTyped g o) (from_type (neutral_has_one_type (no_holes true) g r (arrow m d e) (arrow m p.0 t) i p.1)) p.2)
  below_typed (in_earlier {m = m} s) t p = below_typed s (arrow m p.0 t) p.1
  below_typed (under_fst s) t p = below_typed s (simple_with t p.0) p.1
  below_typed (under_snd s) t p = below_typed s (simple_with p.0 t) p.1

-- What it mentions the whole mentions.
mutual
  pub standing_mentions : (k : ℕ) {g : Assignment} {es : Locals} {q : PlainNeutral} {c t : SimpleType} {o : PlainObject} → Standing g es q c o t → mentions_neutral k q ≡ true → mentions k o ≡ true
  standing_mentions k standing_here e = e
  standing_mentions k (standing_body s) e = standing_mentions k s e
  standing_mentions k (standing_left {l = l} {r = r} s) e = or_first (mentions k l) (mentions k r) (standing_mentions k s e)
  standing_mentions k (standing_right {l = l} {r = r} s) e = or_second (mentions k l) (mentions k r) (standing_mentions k s e)
  standing_mentions k (standing_below h s) e = below_mentions k s e

  below_mentions : (k : ℕ) {g : Assignment} {es : Locals} {q n : PlainNeutral} {c : SimpleType} → StandingBelow g es q c n → mentions_neutral k q ≡ true → mentions_neutral k n ≡ true
  below_mentions k (in_this {r = r} {o = o} e i s) h = or_second (mentions_neutral k r) (mentions k o) (standing_mentions k s h)
  below_mentions k (in_earlier {r = r} {o = o} s) h = or_first (mentions_neutral k r) (mentions k o) (below_mentions k s h)
  below_mentions k (under_fst s) h = below_mentions k s h
  below_mentions k (under_snd s) h = below_mentions k s h

no_function : {m : Mode} {d c : SimpleType} → IsFinal (arrow m d c) → ⊥
no_function f = ⊎_elim (λ h. family h.1) (λ h. monad h.1) f
  where
    family : {m : Mode} {d c : SimpleType} {n : ℕ} → arrow m d c ≡ base n → ⊥
    family e = cc

    monad : {m : Mode} {d c : SimpleType} {s : SimpleTelescope} → arrow m d c ≡ lax s → ⊥
    monad e = cc

no_pair : {d c : SimpleType} → IsFinal (simple_with d c) → ⊥
no_pair f = ⊎_elim (λ h. family h.1) (λ h. monad h.1) f
  where
    family : {d c : SimpleType} {n : ℕ} → simple_with d c ≡ base n → ⊥
    family e = cc

    monad : {d c : SimpleType} {s : SimpleTelescope} → simple_with d c ≡ lax s → ⊥
    monad e = cc

-- At a family or a monad something stands only as the object itself, or below a head.
pub standing_cases : {g : Assignment} {es : Locals} {q : PlainNeutral} {c t : SimpleType} {o : PlainObject} → Standing g es q c o t → IsFinal t
    → ((o ≡ atomic q) × (es ≡ []) × (c ≡ t)) ⊎ ((n : PlainNeutral) × (o ≡ atomic n) × (is_metavariable (head_of n) ≡ false) × StandingBelow g es q c n)
standing_cases standing_here f = inl (refl, refl, refl)
standing_cases (standing_body s) f = absurd (no_function f)
standing_cases (standing_left s) f = absurd (no_pair f)
standing_cases (standing_right s) f = absurd (no_pair f)
standing_cases (standing_below {n = n} e s) f = inr (n, refl, e, s)
