-- Two neutrals, gone along together.
use Rattle.std.specs.Prelude.{ℕ, suc, ◌+◌, ◌≡◌, ◌⊎◌, true, false, List, [], ◌∷◌, ◌++◌, length, reverse, Some, None, refl}
use Rattle.std.proofs.Common.{ap, sym, subst, ◌∙◌, arith, ⊎_elim}
use Rattle.std.proofs.lemmas.List.{reverse-append, reverse-reverse}
use Rattle.clf_syntax.specs.declared.tree.Mode.{Mode}
use Rattle.clf_syntax.specs.declared.tree.Head.{Head}
use Rattle.clf_syntax.specs.declared.tree.Simple.{Simple, Atom, Fun, Top, Monad}
use Rattle.clf_syntax.specs.declared.tree.SimpleEntry.{SimpleEntry}
use Rattle.clf_syntax.specs.Tree.{PlainObject, PlainNeutral, head_alone, app, fst, snd, head_of, PlainElimination, arg, first, second, eliminated, spine_on}
use Rattle.clf_syntax.specs.TypeTree.{SimpleType, base, arrow, simple_with, simple_top, lax, SimpleTelescope}
use Rattle.clf_syntax.specs.PlainSimple.{plain_simple, plain-Atom, plain-SimpleFun, plain-SimpleTop, plain-SimpleMonad}
use Rattle.clf_syntax.specs.Simple.{Assignment, no_holes, SimplyTyped, SimplyTypedNeutral}
use Rattle.hered_subst.specs.TypedEnvironments.{is_metavariable}
use Rattle.subst_laws.proofs.Variables.{neutral_has_one_type}
use Rattle.pattern_laws.specs.Equations.{Locals, Equation, Listed, listed_here, listed_later}
use Rattle.pattern_laws.specs.Patterns.{functions}
use Rattle.unify_laws.specs.Parts.{SameShape, shape_head, shape_app, shape_fst, shape_snd, PartAt, part_here, part_function, part_fst, part_snd}
use Rattle.reach_laws.proofs.Down.{listed_behind}
use Rattle.answer_laws.proofs.InTurn.{listed_cases}
use Rattle.solver_laws.specs.Reduced.{work_size}
use Rattle.celf_unify.specs.Judged.{Matched, MatchesOn, Pairs}
use Rattle.celf_unify.proofs.Bodies.{the_one}
use Rattle.celf_unify.proofs.Gathering.{size_append}

one_type : (g : Assignment) (r : PlainNeutral) (t u : SimpleType) → SimplyTypedNeutral g r t → SimplyTypedNeutral g r u → t ≡ u
one_type g r t u p q = neutral_has_one_type (no_holes true) g r t u p q

domain_of : {m k : Mode} {d c e f : SimpleType} → arrow m d c ≡ arrow k e f → d ≡ e
domain_of h = cc

result_of : {m k : Mode} {d c e f : SimpleType} → arrow m d c ≡ arrow k e f → c ≡ f
result_of h = cc

listed_front : {e : Equation} {es : List Equation} (fs : List Equation) → Listed e es → Listed e (es ++ fs)
listed_front fs listed_here = listed_here
listed_front fs (listed_later l) = listed_later (listed_front fs l)

module _ (g : Assignment) (ls : Locals) where
  pub matched_head : (h : Head) (t : SimpleType) → g h ≡ Some t → is_metavariable h ≡ false → Matched g ls (head_alone h) (head_alone h) t []
  matched_head h t e f = record { typed = e; shape = shape_head f; all = λ o u c p. elim p [ ]; only = λ d l. elim l [ ]; smaller = omega arith }

  abbrev argument_equation : PlainObject → PlainObject → SimpleType → Equation
  argument_equation o u d = record { locals = ls; left = o; right = u; type = d }

  -- under arguments of the same mode
  pub matched_app : (k m : Mode) (o u : PlainObject) (r n : PlainNeutral) (t d c v : SimpleType) (ds more : List Equation) → t ≡ arrow k d c → Matched g ls r n t ds → SimplyTypedNeutral g (app m r o) v
      → more ≡ ds ++ record { locals = ls; left = o; right = u; type = d } ∷ [] → Matched g ls (app m r o) (app m n u) c more
  matched_app k m o u r n t d c v ds more e h (x, p, q) f = subst (Matched g ls (app m r o) (app m n u) c) (sym f) (record {
    typed = (d, there, subst (SimplyTyped g o) (domain_of same) q);
    shape = shape_app h.shape;
    all = λ a b w l. at_part a b w l;
    only = λ a l. ⊎_elim (λ i. let (y, z) = h.only a i in (y, part_function z)) (λ i. let y = the_one i in of_last a y) (listed_cases ds (argument_equation o u d ∷ []) a l);
    smaller = let i = size_append ds (argument_equation o u d ∷ []) in let j = h.smaller in omega (arith, i, j);
  })
    where
      same : arrow m x v ≡ arrow k d c
      same = one_type g r (arrow m x v) (arrow k d c) p (subst (SimplyTypedNeutral g r) e h.typed)

      there : SimplyTypedNeutral g r (arrow m d c)
      there = subst (λ y. SimplyTypedNeutral g r (arrow m y c)) (domain_of same) (subst (λ y. SimplyTypedNeutral g r (arrow m x y)) (result_of same) p)

      at_part : {i j : Mode} (a b : PlainObject) (w : SimpleType) → PartAt g a b w (app i r o) (app j n u) → Listed (argument_equation a b w) (ds ++ argument_equation o u d ∷ [])
      at_part {i = i} a b w (part_here y z) = subst (λ x. Listed (argument_equation o u x) (ds ++ argument_equation o u d ∷ [])) (sym (domain_of (one_type g r (arrow i w y) (arrow m d c) z there))) (listed_behind (argument_equation o u d) ds (argument_equation o u d ∷ []) listed_here)
      at_part a b w (part_function z) = listed_front (argument_equation o u d ∷ []) (h.all a b w z)

      of_last : (a : Equation) → argument_equation o u d ≡ a → (a.locals ≡ ls) × PartAt g a.left a.right a.type (app m r o) (app m n u)
      of_last a y = subst (λ i. (i.locals ≡ ls) × PartAt g i.left i.right i.type (app m r o) (app m n u)) y (refl, part_here c there)

  pub matched_fst : (r n : PlainNeutral) (t c d v : SimpleType) (ds : List Equation) → t ≡ simple_with c d → Matched g ls r n t ds → Matched g ls (fst r) (fst n) c ds
  matched_fst r n t c d v ds e h = record {
    typed = (d, subst (SimplyTypedNeutral g r) e h.typed);
    shape = shape_fst h.shape;
    all = λ a b w l. at_part a b w l;
    only = λ a l. let (y, z) = h.only a l in (y, part_fst z);
    smaller = let j = h.smaller in omega (arith, j);
  }
    where
      at_part : (a b : PlainObject) (w : SimpleType) → PartAt g a b w (fst r) (fst n) → Listed (argument_equation a b w) ds
      at_part a b w (part_fst z) = h.all a b w z

  pub matched_snd : (r n : PlainNeutral) (t c d v : SimpleType) (ds : List Equation) → t ≡ simple_with c d → Matched g ls r n t ds → Matched g ls (snd r) (snd n) d ds
  matched_snd r n t c d v ds e h = record {
    typed = (c, subst (SimplyTypedNeutral g r) e h.typed);
    shape = shape_snd h.shape;
    all = λ a b w l. at_part a b w l;
    only = λ a l. let (y, z) = h.only a l in (y, part_snd z);
    smaller = let j = h.smaller in omega (arith, j);
  }
    where
      at_part : (a b : PlainObject) (w : SimpleType) → PartAt g a b w (snd r) (snd n) → Listed (argument_equation a b w) ds
      at_part a b w (part_snd z) = h.all a b w z

  -- a type that an elimination does not fit
  pub no_app : (m : Mode) (o : PlainObject) (r n : PlainNeutral) (t v : SimpleType) (ds : List Equation) → functions t ≡ 0 → Matched g ls r n t ds → SimplyTypedNeutral g (app m r o) v → ⊥
  no_app m o r n t v ds e h (x, p, q) = let f = ap functions (one_type g r (arrow m x v) t p h.typed) in absurd (omega (arith, e, f))

  pub no_fst : (r n : PlainNeutral) (t v : SimpleType) (ds : List Equation) → ((c d : SimpleType) → t ≡ simple_with c d → ⊥) → Matched g ls r n t ds → SimplyTypedNeutral g (fst r) v → ⊥
  no_fst r n t v ds e h (d, p) = e v d (one_type g r t (simple_with v d) h.typed p)

  pub no_snd : (r n : PlainNeutral) (t v : SimpleType) (ds : List Equation) → ((c d : SimpleType) → t ≡ simple_with c d → ⊥) → Matched g ls r n t ds → SimplyTypedNeutral g (snd r) v → ⊥
  no_snd r n t v ds e h (c, p) = e c v (one_type g r t (simple_with c v) h.typed p)

-- what is no pair type
pub no_with : (t : Simple) → ((f : ℕ) × (t ≡ Atom f)) ⊎ (((m : Mode) × (d : Simple) × (c : Simple) × (t ≡ Fun m d c)) ⊎ ((t ≡ Top) ⊎ ((es : List SimpleEntry) × (t ≡ Monad es)))) → (c d : SimpleType) → plain_simple t ≡ simple_with c d → ⊥
no_with t h c d e = ⊎_elim (λ u. of_atom u.0 (sym (ap plain_simple u.1 ∙ plain-Atom u.0) ∙ e))
    (λ k. ⊎_elim (λ u. of_function (sym (ap plain_simple u.3 ∙ plain-SimpleFun u.0 u.1 u.2) ∙ e))
    (λ j. ⊎_elim (λ u. of_top (sym (ap plain_simple u ∙ plain-SimpleTop) ∙ e)) (λ u. of_monad (sym (ap plain_simple u.1 ∙ plain-SimpleMonad u.0) ∙ e)) j) k) h
  where
    of_atom : (f : ℕ) → base f ≡ simple_with c d → ⊥
    of_atom f e = cc

    of_function : {m : Mode} {x y : SimpleType} → arrow m x y ≡ simple_with c d → ⊥
    of_function e = cc

    of_top : simple_top ≡ simple_with c d → ⊥
    of_top e = cc

    of_monad : {ts : SimpleTelescope} → lax ts ≡ simple_with c d → ⊥
    of_monad e = cc

-- ---- shapes

pub shape_same_head : {r n : PlainNeutral} → SameShape r n → head_of r ≡ head_of n
shape_same_head (shape_head f) = refl
shape_same_head (shape_app s) = shape_same_head s
shape_same_head (shape_fst s) = shape_same_head s
shape_same_head (shape_snd s) = shape_same_head s

before_one : (e f : PlainElimination) (r n : PlainNeutral) → SameShape (eliminated e r) (eliminated f n) → SameShape r n
before_one (arg m o) (arg k u) r n (shape_app s) = s
before_one (arg m o) first r n s = elim s [ ]
before_one (arg m o) second r n s = elim s [ ]
before_one first (arg k u) r n s = elim s [ ]
before_one first first r n (shape_fst s) = s
before_one first second r n s = elim s [ ]
before_one second (arg k u) r n s = elim s [ ]
before_one second first r n s = elim s [ ]
before_one second second r n (shape_snd s) = s

-- What has the same shape after more eliminations had it before.
pub shape_before : (es fs : List PlainElimination) (r n : PlainNeutral) → length es ≡ length fs → SameShape (spine_on es r) (spine_on fs n) → SameShape r n
shape_before [] [] r n l s = s
shape_before [] (f ∷ fs) r n l s = absurd (omega (arith, l))
shape_before (e ∷ es) [] r n l s = absurd (omega (arith, l))
shape_before (e ∷ es) (f ∷ fs) r n l s = before_one e f r n (shape_before es fs (eliminated e r) (eliminated f n) (omega (arith, l)) s)

abbrev deep : PlainNeutral → ℕ
deep (head_alone h) = 0
deep (app m r o) = suc (deep r)
deep (fst r) = suc (deep r)
deep (snd r) = suc (deep r)

deep_one : (e : PlainElimination) (r : PlainNeutral) → deep (eliminated e r) ≡ suc (deep r)
deep_one (arg m o) r = refl
deep_one first r = refl
deep_one second r = refl

deep_spine : (es : List PlainElimination) (r : PlainNeutral) → deep (spine_on es r) ≡ length es + deep r
deep_spine [] r = omega arith
deep_spine (e ∷ es) r = let h = deep_spine es (eliminated e r) in let k = deep_one e r in omega (arith, h, k)

shape_deep : {r n : PlainNeutral} → SameShape r n → deep r ≡ deep n
shape_deep (shape_head f) = refl
shape_deep (shape_app s) = ap suc (shape_deep s)
shape_deep (shape_fst s) = ap suc (shape_deep s)
shape_deep (shape_snd s) = ap suc (shape_deep s)

pub other_length : (es fs : List PlainElimination) (h : Head) → (length es ≡ length fs → ⊥) → SameShape (spine_on es (head_alone h)) (spine_on fs (head_alone h)) → ⊥
other_length es fs h d s = d (the_same (sym (deep_spine es (head_alone h)) ∙ shape_deep s ∙ deep_spine fs (head_alone h)))
  where
    the_same : length es + 0 ≡ length fs + 0 → length es ≡ length fs
    the_same e = omega (arith, e)

-- ---- the other way round

turned_size : (ds : List Equation) → work_size (reverse ds) ≡ work_size ds
turned_size [] = refl
turned_size (d ∷ ds) = let e = ap work_size (reverse-append (d ∷ []) ds) ∙ size_append (reverse ds) (d ∷ []) in let h = turned_size ds in omega (arith, e, h)

turned_in : {e : Equation} {ds : List Equation} → Listed e ds → Listed e (reverse ds)
turned_in {e = e} {ds = ds} l = of l
  where
    of : {es : List Equation} → Listed e es → Listed e (reverse es)
    of {es = []} l = elim l [ ]
    of {es = d ∷ es} listed_here = subst (Listed d) (sym (reverse-append (d ∷ []) es)) (listed_behind d (reverse es) (d ∷ []) listed_here)
    of {es = d ∷ es} (listed_later k) = subst (Listed e) (sym (reverse-append (d ∷ []) es)) (listed_front (d ∷ []) (of k))

turned_matched : {g : Assignment} {ls : Locals} {r n : PlainNeutral} {t : SimpleType} {ds : List Equation} → Matched g ls r n t ds → Matched g ls r n t (reverse ds)
turned_matched {ds = ds} h = record {
  typed = h.typed;
  shape = h.shape;
  all = λ o u c p. turned_in (h.all o u c p);
  only = λ e l. h.only e (subst (Listed e) (reverse-reverse ds) (turned_in l));
  smaller = let e = turned_size ds in let k = h.smaller in omega (arith, e, k);
}

-- ---- along the spines

-- The typed front of a typed neutral.
pub typed_front : (g : Assignment) (es : List PlainElimination) (r : PlainNeutral) (t : SimpleType) → SimplyTypedNeutral g (spine_on es r) t → (u : SimpleType) × SimplyTypedNeutral g r u
typed_front g [] r t p = (t, p)
typed_front g (arg m o ∷ es) r t p = let (u, q) = typed_front g es (app m r o) t p in (arrow m q.0 u, q.1)
typed_front g (first ∷ es) r t p = let (u, q) = typed_front g es (fst r) t p in (simple_with u q.0, q.1)
typed_front g (second ∷ es) r t p = let (u, q) = typed_front g es (snd r) t p in (simple_with q.0 u, q.1)

-- What was gone along, and what is left.
pub record Along (g : Assignment) (ls : Locals) (es fs : List PlainElimination) (h : Head) (t : SimpleType) (ds : List Equation) (left right : List PlainElimination) : Type 0 where
  pub first : PlainNeutral
  pub second : PlainNeutral
  pub matched : Matched g ls first second t ds
  pub whole : spine_on left first ≡ spine_on es (head_alone h)
  pub other : spine_on right second ≡ spine_on fs (head_alone h)

module _ (g : Assignment) (ls : Locals) (es fs : List PlainElimination) (h : Head) (v : SimpleType) (typed : SimplyTypedNeutral g (spine_on es (head_alone h)) v) where
  next_typed : (e f : PlainElimination) (left right : List PlainElimination) (t : SimpleType) (ds : List Equation) (a : Along g ls es fs h t ds (e ∷ left) (f ∷ right)) → (u : SimpleType) × SimplyTypedNeutral g (eliminated e a.first) u
  next_typed e f left right t ds a = typed_front g left (eliminated e a.first) v (subst (λ n. SimplyTypedNeutral g n v) (sym a.whole) typed)

  pub along_next : (e f : PlainElimination) (left right : List PlainElimination) (t u : SimpleType) (ds more : List Equation) → Along g ls es fs h t ds (e ∷ left) (f ∷ right) → MatchesOn t ds ls e f (Some (u, more)) → Along g ls es fs h u more left right
  along_next e f left right t u ds more a m = let (w, p) = next_typed e f left right t ds a in record { first = eliminated e a.first; second = eliminated f a.second; matched = m g a.first a.second w a.matched p; whole = a.whole; other = a.other }

  pub along_stops : (e f : PlainElimination) (left right : List PlainElimination) (t : SimpleType) (ds : List Equation) → length left ≡ length right → Along g ls es fs h t ds (e ∷ left) (f ∷ right) → MatchesOn t ds ls e f None
      → SameShape (spine_on es (head_alone h)) (spine_on fs (head_alone h)) → ⊥
  along_stops e f left right t ds l a m s = let (w, p) = next_typed e f left right t ds a in
      m g a.first a.second w a.matched p (shape_before left right (eliminated e a.first) (eliminated f a.second) l (subst (λ n. SameShape n (spine_on right (eliminated f a.second))) (sym a.whole) (subst (SameShape (spine_on es (head_alone h))) (sym a.other) s)))

  pub along_ends : (left right : List PlainElimination) (t : SimpleType) (ds more : List Equation) → left ≡ [] → right ≡ [] → more ≡ reverse ds → Along g ls es fs h t ds left right → Pairs g ls (spine_on es (head_alone h)) (spine_on fs (head_alone h)) (Some more)
  along_ends left right t ds more e f k a = (
    t,
    subst (Matched g ls (spine_on es (head_alone h)) (spine_on fs (head_alone h)) t) (sym k) (turned_matched
        (subst (λ n. Matched g ls n (spine_on fs (head_alone h)) t ds) (sym (ap (λ l. spine_on l a.first) e) ∙ a.whole) (subst (λ n. Matched g ls a.first n t ds) (sym (ap (λ l. spine_on l a.second) f) ∙ a.other) a.matched))),
  )
