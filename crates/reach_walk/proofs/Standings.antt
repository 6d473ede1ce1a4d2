-- What stands somewhere in a tree stands in one of its parts.
use Rattle.std.specs.Prelude.{true, false, ◌≡◌, ◌⊎◌, [], ◌∷◌, ◌++◌, refl}
use Rattle.std.proofs.Common.{sym, subst, inl, inr, ⊎_elim, append_assoc}
use Rattle.clf_syntax.specs.declared.tree.Mode.{Mode}
use Rattle.clf_syntax.specs.declared.tree.Head.{Head}
use Rattle.clf_syntax.specs.Tree.{PlainObject, lam, pair, unit, monadic, atomic, PlainNeutral, head_alone, app, fst, snd, PlainExpression, head_of}
use Rattle.clf_syntax.specs.TypeTree.{SimpleType, arrow, simple_with}
use Rattle.clf_syntax.specs.Simple.{Assignment, extended, SimplyTypedNeutral, no_holes}
use Rattle.hered_subst.specs.TypedEnvironments.{is_metavariable}
use Rattle.subst_laws.proofs.Variables.{neutral_has_one_type}
use Rattle.pattern_laws.specs.Equations.{scoped, Locals}
use Rattle.reach_laws.specs.Reach.{Standing, standing_here, standing_body, standing_left, standing_right, standing_below, StandingBelow, in_this, in_earlier, under_fst, under_snd}
use Rattle.reach_walk.specs.Somewhere.{Somewhere, SomewhereBelow}

from_type : {m k : Mode} {d c e f : SimpleType} → arrow m d c ≡ arrow k e f → e ≡ d
from_type h = cc

to_type : {m k : Mode} {d c e f : SimpleType} → arrow m d c ≡ arrow k e f → f ≡ c
to_type h = cc

first_type : {a b c d : SimpleType} → simple_with a b ≡ simple_with c d → c ≡ a
first_type h = cc

second_type : {a b c d : SimpleType} → simple_with a b ≡ simple_with c d → d ≡ b
second_type h = cc

of_body : {g : Assignment} {es : Locals} {q : PlainNeutral} {c t : SimpleType} {m : Mode} {b : PlainObject} → Standing g es q c (lam m b) t
    → (d e : SimpleType) × (fs : Locals) × (t ≡ arrow m d e) × (es ≡ fs ++ (m, d) ∷ []) × Standing (extended d g) fs q c b e
of_body (standing_body {ds = fs} {d = d} {e = e} s) = (d, e, fs, refl, refl, s)

of_pair : {g : Assignment} {es : Locals} {q : PlainNeutral} {c t : SimpleType} {l r : PlainObject} → Standing g es q c (pair l r) t
    → (d e : SimpleType) × (t ≡ simple_with d e) × (Standing g es q c l d ⊎ Standing g es q c r e)
of_pair (standing_left {d = d} {e = e} s) = (d, e, refl, inl s)
of_pair (standing_right {d = d} {e = e} s) = (d, e, refl, inr s)

of_unit : {g : Assignment} {es : Locals} {q : PlainNeutral} {c t : SimpleType} → Standing g es q c unit t → ⊥
of_unit s = elim s [ ]

of_monadic : {g : Assignment} {es : Locals} {q : PlainNeutral} {c t : SimpleType} {e : PlainExpression} → Standing g es q c (monadic e) t → ⊥
of_monadic s = elim s [ ]

pub of_atomic : {g : Assignment} {es : Locals} {q n : PlainNeutral} {c t : SimpleType} → Standing g es q c (atomic n) t
    → ((es ≡ []) × (q ≡ n) × (c ≡ t)) ⊎ ((is_metavariable (head_of n) ≡ false) × StandingBelow g es q c n)
of_atomic standing_here = inl (refl, refl, refl)
of_atomic (standing_below e s) = inr (e, s)

of_app : {g : Assignment} {es : Locals} {q r : PlainNeutral} {c : SimpleType} {m : Mode} {o : PlainObject} → StandingBelow g es q c (app m r o)
    → ((d e : SimpleType) × SimplyTypedNeutral g r (arrow m d e) × Standing g es q c o d) ⊎ StandingBelow g es q c r
of_app (in_this {d = d} e p s) = inl (d, e, p, s)
of_app (in_earlier s) = inr s

of_fst : {g : Assignment} {es : Locals} {q r : PlainNeutral} {c : SimpleType} → StandingBelow g es q c (fst r) → StandingBelow g es q c r
of_fst (under_fst s) = s

of_snd : {g : Assignment} {es : Locals} {q r : PlainNeutral} {c : SimpleType} → StandingBelow g es q c (snd r) → StandingBelow g es q c r
of_snd (under_snd s) = s

of_bare : {g : Assignment} {es : Locals} {q : PlainNeutral} {c : SimpleType} {h : Head} → StandingBelow g es q c (head_alone h) → ⊥
of_bare s = elim s [ ]

moved : (fs ds : Locals) (d : Mode × SimpleType) → fs ++ d ∷ ds ≡ (fs ++ d ∷ []) ++ ds
moved fs ds d = sym (append_assoc fs (d ∷ []) ds)

module _ (P : Locals → PlainNeutral → SimpleType → Type 0) (g : Assignment) (ls : Locals) where
  pub into_body : (ds : Locals) (m : Mode) (d c : SimpleType) (b : PlainObject) → Somewhere P g ls ((m, d) ∷ ds) b c → Somewhere P g ls ds (lam m b) (arrow m d c)
  into_body ds m d c b a = let (es, q, k, s, h) = a in (es ++ (m, d) ∷ [], q, k, standing_body s, subst (λ l. P l q k) (moved es ds (m, d)) h)

  pub from_body : (ds : Locals) (m : Mode) (d c : SimpleType) (b : PlainObject) → Somewhere P g ls ds (lam m b) (arrow m d c) → Somewhere P g ls ((m, d) ∷ ds) b c
  from_body ds m d c b a = let (es, q, k, s, h) = a in let (d', c', fs, u, v, w) = of_body s in (
    fs,
    q,
    k,
    subst (λ y. Standing (extended y (scoped (ds ++ ls) g)) fs q k b c) (from_type u) (subst (λ y. Standing (extended d' (scoped (ds ++ ls) g)) fs q k b y) (to_type u) w),
    subst (λ y. P (fs ++ (m, y) ∷ ds) q k) (from_type u) (subst (λ l. P l q k) (sym (moved fs ds (m, d'))) (subst (λ l. P (l ++ ds) q k) v h)),
  )

  pub into_left : (ds : Locals) (c d : SimpleType) (l r : PlainObject) → Somewhere P g ls ds l c → Somewhere P g ls ds (pair l r) (simple_with c d)
  into_left ds c d l r a = let (es, q, k, s, h) = a in (es, q, k, standing_left s, h)

  pub into_right : (ds : Locals) (c d : SimpleType) (l r : PlainObject) → Somewhere P g ls ds r d → Somewhere P g ls ds (pair l r) (simple_with c d)
  into_right ds c d l r a = let (es, q, k, s, h) = a in (es, q, k, standing_right s, h)

  pub from_pair : (ds : Locals) (c d : SimpleType) (l r : PlainObject) → Somewhere P g ls ds (pair l r) (simple_with c d) → Somewhere P g ls ds l c ⊎ Somewhere P g ls ds r d
  from_pair ds c d l r a = let (es, q, k, s, h) = a in let (c', d', u, w) = of_pair s in ⊎_elim
      (λ v. inl (es, q, k, subst (Standing (scoped (ds ++ ls) g) es q k l) (first_type u) v, h))
      (λ v. inr (es, q, k, subst (Standing (scoped (ds ++ ls) g) es q k r) (second_type u) v, h)) w

  pub not_in_unit : (ds : Locals) (t : SimpleType) → Somewhere P g ls ds unit t → ⊥
  not_in_unit ds t a = of_unit a.3

  pub not_in_monadic : (ds : Locals) (e : PlainExpression) (t : SimpleType) → Somewhere P g ls ds (monadic e) t → ⊥
  not_in_monadic ds e t a = of_monadic a.3

  pub here : (ds : Locals) (n : PlainNeutral) (t : SimpleType) → P ds n t → Somewhere P g ls ds (atomic n) t
  here ds n t p = ([], n, t, standing_here, p)

  pub below : (ds : Locals) (n : PlainNeutral) (t : SimpleType) → is_metavariable (head_of n) ≡ false → SomewhereBelow P g ls ds n → Somewhere P g ls ds (atomic n) t
  below ds n t e a = let (es, q, k, s, h) = a in (es, q, k, standing_below e s, h)

  pub from_atomic : (ds : Locals) (n : PlainNeutral) (t : SimpleType) → Somewhere P g ls ds (atomic n) t → P ds n t ⊎ ((is_metavariable (head_of n) ≡ false) × SomewhereBelow P g ls ds n)
  from_atomic ds n t a = let (es, q, k, s, h) = a in ⊎_elim (λ u. inl (own es q k u h)) (λ u. inr (u.0, (es, q, k, u.1, h))) (of_atomic s)
    where
      own : (es : Locals) (q : PlainNeutral) (k : SimpleType) → (es ≡ []) × (q ≡ n) × (k ≡ t) → P (es ++ ds) q k → P ds n t
      own es q k a p = subst (λ fs. P (fs ++ ds) n t) a.0 (subst (λ r. P (es ++ ds) r t) a.1 (subst (λ b. P (es ++ ds) q b) a.2 p))

  pub not_in_bare : (ds : Locals) (h : Head) → SomewhereBelow P g ls ds (head_alone h) → ⊥
  not_in_bare ds h a = of_bare a.3

  pub into_function : (ds : Locals) (m : Mode) (r : PlainNeutral) (o : PlainObject) → SomewhereBelow P g ls ds r → SomewhereBelow P g ls ds (app m r o)
  into_function ds m r o a = let (es, q, k, s, h) = a in (es, q, k, in_earlier s, h)

  pub into_argument : (ds : Locals) (m : Mode) (r : PlainNeutral) (o : PlainObject) (d e : SimpleType) → SimplyTypedNeutral (scoped (ds ++ ls) g) r (arrow m d e) → Somewhere P g ls ds o d → SomewhereBelow P g ls ds (app m r o)
  into_argument ds m r o d e p a = let (es, q, k, s, h) = a in (es, q, k, in_this e p s, h)

  pub from_app : (ds : Locals) (m : Mode) (r : PlainNeutral) (o : PlainObject) (d e : SimpleType) → SimplyTypedNeutral (scoped (ds ++ ls) g) r (arrow m d e) → SomewhereBelow P g ls ds (app m r o)
      → SomewhereBelow P g ls ds r ⊎ Somewhere P g ls ds o d
  from_app ds m r o d e p a = let (es, q, k, s, h) = a in ⊎_elim
      (λ u. inr (es, q, k, subst (Standing (scoped (ds ++ ls) g) es q k o) (from_type (neutral_has_one_type (no_holes true) (scoped (ds ++ ls) g) r (arrow m d e) (arrow m u.0 u.1) p u.2)) u.3, h))
      (λ u. inl (es, q, k, u, h)) (of_app s)

  pub into_fst : (ds : Locals) (r : PlainNeutral) → SomewhereBelow P g ls ds r → SomewhereBelow P g ls ds (fst r)
  into_fst ds r a = let (es, q, k, s, h) = a in (es, q, k, under_fst s, h)

  pub from_fst : (ds : Locals) (r : PlainNeutral) → SomewhereBelow P g ls ds (fst r) → SomewhereBelow P g ls ds r
  from_fst ds r a = let (es, q, k, s, h) = a in (es, q, k, of_fst s, h)

  pub into_snd : (ds : Locals) (r : PlainNeutral) → SomewhereBelow P g ls ds r → SomewhereBelow P g ls ds (snd r)
  into_snd ds r a = let (es, q, k, s, h) = a in (es, q, k, under_snd s, h)

  pub from_snd : (ds : Locals) (r : PlainNeutral) → SomewhereBelow P g ls ds (snd r) → SomewhereBelow P g ls ds r
  from_snd ds r a = let (es, q, k, s, h) = a in (es, q, k, of_snd s, h)
