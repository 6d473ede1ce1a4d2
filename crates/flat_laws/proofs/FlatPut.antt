-- Flat solutions put into flat objects give flat objects.
use Rattle.std.specs.Prelude.{ℕ, Bool, true, false, ◌+◌, ◌-◌, ◌≡◌, ◌<◌, ◌≤◌, ◌⊎◌, ◌&&◌, List, [], ◌∷◌, length, Option, Some, None, refl}
use Rattle.std.proofs.Common.{ap, sym, subst, ◌∙◌, arith, inl, inr, ⊎_elim}
use Rattle.clf_syntax.specs.declared.tree.Head.{Head}
use Rattle.clf_syntax.specs.declared.tree.Head.TheVariants.{Const, Var, Meta}
use Rattle.clf_syntax.specs.Tree.{PlainObject, lam, pair, unit, monadic, atomic, hole, PlainNeutral, head_alone, app, fst, snd, head_of}
use Rattle.clf_syntax.specs.TypeTree.{SimpleType, base, arrow, simple_with, lax}
use Rattle.clf_syntax.specs.Simple.{Assignment, extended, SimplyTyped, SimplyTypedNeutral}
use Rattle.clf_syntax.specs.Renaming.{ren, up}
use Rattle.clf_syntax.specs.Occurs.{occurs}
use Rattle.clf_syntax.proofs.RenamingLaws.{cut}
use Rattle.clf_syntax.proofs.OccursLaws.{not_both}
use Rattle.hered_subst.specs.Substitution.{Image, keep, Environment, ren_image, under, Substituted, through_unit, through_kept, KeepsHead, kept_bare, kept_app, kept_fst, kept_snd}
use Rattle.hered_subst.proofs.Determined.{determined}
use Rattle.hered_subst.proofs.SimpleTyping.{Typed, typed_lam, typed_pair, typed_unit, typed_monadic, typed_metavariable, typed_atomic, TypedNeutral, typed_bare, typed_app, typed_fst, typed_snd, to_typed, of_neutral}
use Rattle.hered_subst.specs.TypedEnvironments.{is_metavariable}
use Rattle.subst_laws.specs.Environments.{Instantiation, instant, image_or, TypedInstantiation}
use Rattle.eta_laws.proofs.EtaTyped.{eta_typed}
use Rattle.pattern_laws.proofs.TypeParts.{from_type, to_type, first_type, second_type}
use Rattle.pattern_laws.proofs.Owning.{blank_typed}
use Rattle.subst_laws.proofs.Variables.{neutral_has_one_type}
use Rattle.clf_syntax.specs.Simple.{no_holes}
use Rattle.pattern_laws.specs.Instantiations.{Instantiated, Types, closed}
use Rattle.pattern_laws.specs.Patterns.{Place, on, lams, arrows, Fitting, local_at, OnDistinct, beneath, Ordered}
use Rattle.pattern_laws.specs.Equations.{scoped, Locals}
use Rattle.pattern_laws.proofs.Spines.{applied, keeps_variables, flex_value, body, under_instant}
use Rattle.pattern_laws.proofs.Inverse.{applied_local, place_cases, typed_lams, lams_typed, fitting_at}
use Rattle.pattern_laws.proofs.Typings.{blank_absent}
use Rattle.pattern_laws.proofs.Instances.{scoped_out, scoped_meta}
use Rattle.inversion_laws.proofs.Cores.{beneath_out}
use Rattle.pattern_laws.proofs.Places.{occurring}
use Rattle.unify_laws.proofs.RigidPlaces.{parts, keeps_head, KeepsOthers, keeps_others}
use Rattle.reach_laws.proofs.Tightness.{on_kept}
use Rattle.reach_laws.proofs.PartsUnder.{stays_typed}
use Rattle.flat_laws.specs.Flat.{flat_type, Flat, FlatBelow}
use Rattle.flat_laws.proofs.FlatRenamed.{flat_renamed}

and_second : (a b : Bool) → a && b ≡ true → b ≡ true
and_second true b e = e
and_second false b e = absurd (cc)

-- the result of a flat type of functions is flat
result_flat : (ps : List Place) (c : SimpleType) → flat_type (arrows ps c) ≡ true → flat_type c ≡ true
result_flat [] c e = e
result_flat (p ∷ ps) c e = and_second (flat_type p.1) (flat_type c) (result_flat ps (arrow p.0 p.1 c) e)

on_long : (g : Assignment) (qs : List Place) (r : PlainNeutral) (c : SimpleType) → Fitting g qs → TypedNeutral false g r (arrows qs c) → TypedNeutral false g (on qs r) c
on_long g [] r c f p = p
on_long g (q ∷ qs) r c f p = typed_app (on_long g qs r (arrow q.0 q.1 c) f.1 p) (⊎_elim (λ e. eta_typed false g q.1 (typed_bare e)) (λ e. blank_typed false g q.1 (head_alone (Var q.2)) e) f.0)

-- all metavariables have flat types
abbrev pub FlatTypes : Assignment → Type 0
FlatTypes g = (m : ℕ) (a : SimpleType) → g (Meta m) ≡ Some a → flat_type a ≡ true

is_one : (h : Head) (k : ℕ) → h ≡ Meta k → is_metavariable h ≡ false → ⊥
is_one h k e f = not_both (ap is_metavariable e) f

-- In a flat tree no metavariable stands at a monad.
mutual
  flat_long : {g : Assignment} {o : PlainObject} {t : SimpleType} → Typed true g o t → FlatTypes g → Flat g o t → Typed false g o t
  flat_long (typed_lam {g = g} {b = b} {d = d} {c = c} p) h (d', c', e, f) = typed_lam (flat_long p h (subst (λ x. Flat (extended x g) b c) (from_type e) (subst (λ x. Flat (extended d' g) b x) (to_type e) f)))
  flat_long (typed_pair {g = g} {l = l} {r = r} p q) h (c, d, e, f, k) = typed_pair (flat_long p h (subst (Flat g l) (first_type e) f)) (flat_long q h (subst (Flat g r) (second_type e) k))
  flat_long typed_unit h f = typed_unit
  flat_long (typed_monadic p) h f = absurd f
  flat_long (typed_metavariable {n = n} {ts = ts} {k = k} i p e) h f = absurd (⊎_elim (λ u. is_one (head_of n) k e u.0) (λ u. never (result_flat u.1 (lax ts) (h u.0 (arrows u.1 (lax ts)) u.2.type))) f)
    where
      never : false ≡ true → ⊥
      never e = cc
  flat_long (typed_atomic {g = g} {n = n} {a = a} p) h f = typed_atomic (⊎_elim (λ u. flat_long_neutral p h u.1)
      (λ u. subst (λ q. TypedNeutral false g q (base a)) (sym u.2.neutral) (on_long g u.1 (head_alone (Meta u.0)) (base a) u.2.fitting (typed_bare u.2.type))) f)

  flat_long_neutral : {g : Assignment} {n : PlainNeutral} {t : SimpleType} → TypedNeutral true g n t → FlatTypes g → FlatBelow g n → TypedNeutral false g n t
  flat_long_neutral (typed_bare e) h f = typed_bare e
  flat_long_neutral (typed_app {g = g} {m = m} {r = r} {o = o} {d = d} {c = c} p q) h (f, (d', c', e, k)) = typed_app (flat_long_neutral p h f) (flat_long q h (subst (Flat g o) (from_type (neutral_has_one_type (no_holes true) g r (arrow m d c) (arrow m d' c') (of_neutral p) e)) k))
  flat_long_neutral (typed_fst p) h f = typed_fst (flat_long_neutral p h f)
  flat_long_neutral (typed_snd p) h f = typed_snd (flat_long_neutral p h f)

flat_lams : (ps : List Place) (y : Assignment) (b : PlainObject) (t : SimpleType) → Flat y (lams ps b) (arrows ps t) → Flat (beneath ps y) b t
flat_lams [] y b t f = f
flat_lams (p ∷ ps) y b t f = let (d, c, e, k) = flat_lams ps y (lam p.0 b) (arrow p.0 p.1 t) f in subst (λ x. Flat (extended x (beneath ps y)) b t) (from_type e) (subst (λ x. Flat (extended d (beneath ps y)) b x) (to_type e) k)

cases_of : {X : Type 0} (o : Option X) → (o ≡ None) ⊎ ((b : X) × (o ≡ Some b))
cases_of None = inl refl
cases_of (Some b) = inr (b, refl)

no_type : (u : SimpleType) {o : Option SimpleType} → o ≡ None → o ≡ Some u → ⊥
no_type u e f = cc

module _ (constants metas : Types) (given : Instantiation) (typed : TypedInstantiation (closed constants metas) (closed constants metas) given)
    (flat_types : FlatTypes (closed constants metas))
    (flat : (k : ℕ) (o : PlainObject) (a : SimpleType) → given k ≡ Some o → metas k ≡ Some a → SimplyTyped (closed constants metas) o a × Flat (closed constants metas) o a) (ls : Locals) where
  -- an occurring variable of what a closed object holds below the lambdas stands at a place
  placed : (zs : List Place) (b : PlainObject) (t : SimpleType) → Typed false (beneath zs (closed constants metas)) b t → (i : ℕ) → occurs i b ≡ true → (v : ℕ) × (local_at zs i ≡ Some v)
  placed zs b t p i o = ⊎_elim
      (λ h. ⊎_elim (λ l. (_, l)) (λ l. absurd (not_both o (blank_absent p i l.0 l.1 l.2))) (place_cases zs (closed constants metas) i h))
      (λ h. let (u, e) = occurring p i o in absurd (no_type u (out h) e))
      (cut i (length zs))
    where
      back : length zs ≤ i → i - length zs + length zs ≡ i
      back h = omega arith

      out : length zs ≤ i → beneath zs (closed constants metas) (Var i) ≡ None
      out h = ap (λ j. beneath zs (closed constants metas) (Var j)) (sym (back h)) ∙ beneath_out zs (closed constants metas) (Var (i - length zs))

  -- a solved metavariable on distinct locals in order
  flat_value : (zs : List Place) (t : SimpleType) → Fitting (scoped ls (closed constants metas)) zs → Ordered zs → (b : PlainObject) → Typed false (beneath zs (closed constants metas)) b t → Flat (beneath zs (closed constants metas)) b t
      → Flat (scoped ls (closed constants metas)) (ren (applied (length ls) zs) b) t
  flat_value zs t f u b p q = flat_renamed (scoped ls (closed constants metas)) (applied (length ls) zs) (beneath zs (closed constants metas)) b t q (
    (λ c. scoped_out ls (closed constants metas) (Const c) ∙ sym (beneath_out zs (closed constants metas) (Const c))),
    (λ m. scoped_out ls (closed constants metas) (Meta m) ∙ sym (beneath_out zs (closed constants metas) (Meta m))),
    (λ i o. let (v, e) = placed zs b t p i o in ap (λ j. scoped ls (closed constants metas) (Var j)) (applied_local (length ls) zs i v e) ∙ fitting_at (scoped ls (closed constants metas)) zs f (closed constants metas) i v e),
  )
      (λ i j o k l. let (v, e) = placed zs b t p i o in let (w, h) = placed zs b t p j k in
      subst (λ a. a < applied (length ls) zs j) (sym (applied_local (length ls) zs i v e)) (subst (λ a. v < a) (sym (applied_local (length ls) zs j w h)) (u i j v w l e h)))

  pub flat_put_flexible : (n : PlainNeutral) (k : ℕ) (zs : List Place) (t : SimpleType) → OnDistinct (scoped ls (closed constants metas)) n k zs t → Ordered zs → (y : PlainObject) → Instantiated (length ls) given (atomic n) y → Flat (scoped ls (closed constants metas)) y t
  flat_put_flexible n k zs t d u y i = ⊎_elim
      (λ e. subst (λ z. Flat (scoped ls (closed constants metas)) z t) (determined (left e) (subst (λ q. Instantiated (length ls) given (atomic q) y) d.neutral i)) (inr (k, zs, record { neutral = refl; type = d.type; fitting = d.fitting; distinct = d.distinct }, u)))
      (λ e. let (o, h) = e in let (p, q) = flat k o (arrows zs t) h own in
      let (b, f, g) = typed_lams zs (flat_long (to_typed true (closed constants metas) o (arrows zs t) p) flat_types q) in
      subst (λ z. Flat (scoped ls (closed constants metas)) z t)
      (determined (flex_value (length ls) given k (closed constants metas) (scoped ls (closed constants metas)) zs b t (scoped_out ls (closed constants metas)) d.fitting (h ∙ ap (λ o. Some o) f) (lams_typed zs g)) (subst (λ q. Instantiated (length ls) given (atomic q) y) d.neutral i))
      (flat_value zs t d.fitting u b g (flat_lams zs (closed constants metas) b t (subst (λ z. Flat (closed constants metas) z (arrows zs t)) f q))))
      (cases_of (given k))
    where
      own : metas k ≡ Some (arrows zs t)
      own = sym (scoped_meta ls (closed constants metas) k) ∙ d.type

      left : given k ≡ None → Instantiated (length ls) given (atomic (on zs (head_alone (Meta k)))) (atomic (on zs (head_alone (Meta k))))
      left e = through_kept (on_kept (under (length ls) (instant given)) (keeps_variables (length ls) given) zs (head_alone (Meta k)) (head_alone (Meta k)) (kept_bare (ap (λ o. ren_image (up (length ls)) (image_or (Meta k) o)) e)))

one_head : {i : Image} {a j : Head} → i ≡ keep a → i ≡ keep j → j ≡ a
one_head e f = cc

kept_head : {s : Environment} {r y : PlainNeutral} → KeepsHead s r y → KeepsOthers s → is_metavariable (head_of r) ≡ false → head_of y ≡ head_of r
kept_head (kept_bare {h = h} e) k f = one_head (k h f) e
kept_head (kept_app p c) k f = kept_head p k f
kept_head (kept_fst p) k f = kept_head p k f
kept_head (kept_snd p) k f = kept_head p k f

kept_typed : (g : Assignment) {s : Environment} {r y : PlainNeutral} → KeepsHead s r y → (t : SimpleType) → KeepsOthers s → ((o x : PlainObject) (a : SimpleType) → SimplyTyped g o a → Substituted s o x → SimplyTyped g x a) → is_metavariable (head_of r) ≡ false → SimplyTypedNeutral g r t → SimplyTypedNeutral g y t
kept_typed g (kept_bare {h = h} e) t k f n p = ap g (one_head (k h n) e) ∙ p
kept_typed g (kept_app {m = m} {o = o} {y = x} q c) t k f n p = (p.0, kept_typed g q (arrow m p.0 t) k f n p.1, f o x p.0 p.2 c)
kept_typed g (kept_fst q) t k f n p = (p.0, kept_typed g q (simple_with t p.0) k f n p.1)
kept_typed g (kept_snd q) t k f n p = (p.0, kept_typed g q (simple_with p.0 t) k f n p.1)

module _ (constants metas : Types) (given : Instantiation) (typed : TypedInstantiation (closed constants metas) (closed constants metas) given)
    (flat_types : FlatTypes (closed constants metas))
    (flat : (k : ℕ) (o : PlainObject) (a : SimpleType) → given k ≡ Some o → metas k ≡ Some a → SimplyTyped (closed constants metas) o a × Flat (closed constants metas) o a) where
  stay : (ls : Locals) (o x : PlainObject) (a : SimpleType) → SimplyTyped (scoped ls (closed constants metas)) o a → Instantiated (length ls) given o x → SimplyTyped (scoped ls (closed constants metas)) x a
  stay ls o x a p i = stays_typed constants metas given typed ls o x a p i

  mutual
    pub flat_put : (x : PlainObject) (ls : Locals) (t : SimpleType) (y : PlainObject) → Flat (scoped ls (closed constants metas)) x t → SimplyTyped (scoped ls (closed constants metas)) x t → Instantiated (length ls) given x y → Flat (scoped ls (closed constants metas)) y t
    flat_put (lam m b) ls t y (d, c, e, f) p i = let (x, h, k) = body i in subst (λ z. Flat (scoped ls (closed constants metas)) z t) (sym h) (
      d,
      c,
      e,
      flat_put b ((m, d) ∷ ls) c x f
          (subst (λ a. SimplyTyped (extended a (scoped ls (closed constants metas))) b c) (from_type (sym e ∙ p.2)) (subst (λ a. SimplyTyped (extended p.0 (scoped ls (closed constants metas))) b a) (to_type (sym e ∙ p.2)) p.3))
          (subst (λ s. Substituted s b x) (under_instant (length ls) given) k),
    )
    flat_put (pair l r) ls t y (c, d, e, f, h) p i = let (x, w, k, j, u) = parts i in subst (λ z. Flat (scoped ls (closed constants metas)) z t) (sym k)
        (c, d, e, flat_put l ls c x f (subst (SimplyTyped (scoped ls (closed constants metas)) l) (first_type (sym e ∙ p.2)) p.3) j, flat_put r ls d w h (subst (SimplyTyped (scoped ls (closed constants metas)) r) (second_type (sym e ∙ p.2)) p.4) u)
    flat_put unit ls t y f p i = subst (λ z. Flat (scoped ls (closed constants metas)) z t) (determined through_unit i) tt
    flat_put (monadic e) ls t y f p i = absurd f
    flat_put (atomic n) ls t y f p i = ⊎_elim
        (λ h. let (x, e, k) = keeps_head (length ls) given h.0 i in subst (λ z. Flat (scoped ls (closed constants metas)) z t) (sym e)
        (inl (ap is_metavariable (kept_head k (keeps_others (length ls) given) h.0) ∙ h.0, flat_put_below n ls t x h.0 h.1 p.1 k)))
        (λ h. flat_put_flexible constants metas given typed flat_types flat ls n h.0 h.1 t h.2 h.3 y i)
        f
    flat_put hole ls t y f p i = absurd f

    pub flat_put_below : (n : PlainNeutral) (ls : Locals) (t : SimpleType) (y : PlainNeutral) → is_metavariable (head_of n) ≡ false → FlatBelow (scoped ls (closed constants metas)) n → SimplyTypedNeutral (scoped ls (closed constants metas)) n t → KeepsHead (under (length ls) (instant given)) n y → FlatBelow (scoped ls (closed constants metas)) y
    flat_put_below (head_alone h) ls t y e f p (kept_bare k) = tt
    flat_put_below (app m r o) ls t y e (f, (d, c, q, k)) p (kept_app {x = x} {y = w} i j) = (
      flat_put_below r ls (arrow m p.0 t) x e f p.1 i,
      (
        d,
        c,
        kept_typed (scoped ls (closed constants metas)) i (arrow m d c) (keeps_others (length ls) given) (stay ls) e q,
        flat_put o ls d w k (subst (SimplyTyped (scoped ls (closed constants metas)) o) (from_type (neutral_has_one_type (no_holes true) (scoped ls (closed constants metas)) r (arrow m d c) (arrow m p.0 t) q p.1)) p.2) j,
      ),
    )
    flat_put_below (fst r) ls t y e f p (kept_fst {x = x} i) = flat_put_below r ls (simple_with t p.0) x e f p.1 i
    flat_put_below (snd r) ls t y e f p (kept_snd {x = x} i) = flat_put_below r ls (simple_with p.0 t) x e f p.1 i
