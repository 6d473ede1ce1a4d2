-- What an instantiation does to an equation of a metavariable on distinct locals.
use Rattle.std.specs.Prelude.{ℕ, Bool, true, false, zero, suc, ◌+◌, ◌-◌, ◌≡◌, ◌<◌, ◌≤◌, ◌⊎◌, nat_eq, if◌then◌else◌, List, [], ◌∷◌, length, Some, None, refl}
use Rattle.std.proofs.Common.{ap, sym, subst, ◌∙◌, arith, inl, inr, ⊎_elim, add-one}
use Rattle.clf_syntax.specs.declared.tree.Head.{Head}
use Rattle.clf_syntax.specs.declared.tree.Head.TheVariants.{Const, Var, Meta}
use Rattle.clf_syntax.specs.Tree.{PlainObject, lam, atomic, PlainNeutral, head_alone, head_of}
use Rattle.clf_syntax.specs.TypeTree.{SimpleType, arrow}
use Rattle.clf_syntax.specs.Simple.{Assignment, extended, SimplyTyped}
use Rattle.clf_syntax.specs.Renaming.{ren, ren_head, up, lifted}
use Rattle.clf_syntax.specs.Occurs.{occurs}
use Rattle.clf_syntax.proofs.RenamingLaws.{cut}
use Rattle.clf_syntax.proofs.OccursLaws.{not_true, not_both, source}
use Rattle.hered_subst.specs.Substitution.{Image, keep, put, ren_image, under, Substituted, through_kept, through_value, HasValue, value_bare}
use Rattle.hered_subst.proofs.Determined.{determined}
use Rattle.hered_subst.proofs.Renamed.{renamed}
use Rattle.hered_subst.proofs.SimpleTyping.{Typed, typed_lam, to_typed, of_typed, renamed_typed}
use Rattle.subst_laws.specs.Environments.{Instantiation, instant, image_or}
use Rattle.eta_laws.specs.Eta.{eta}
use Rattle.eta_laws.proofs.EtaTyped.{eta_is_typed}
use Rattle.trace_equal.specs.Exchange.{Joined}
use Rattle.trace_equal.proofs.Joined.{joined_is_equivalence}
use Rattle.pattern_laws.specs.Instantiations.{Instantiated, Types, closed, over, Instantiates}
use Rattle.pattern_laws.specs.Patterns.{Place, on, lams, arrows, Fitting, local_at, Distinct, OwnPlaces, OnLocals, LacksMisfits, Covers, inverse, beneath, inverted, blank}
use Rattle.pattern_laws.specs.Equations.{scoped, Solves, Locals}
use Rattle.pattern_laws.proofs.Occurrences.{away, stays_there, fixed, absent, absent_joined}
use Rattle.pattern_laws.proofs.Typings.{typed_where, blank_absent}
use Rattle.inversion_laws.specs.Laws.{InvertedIsTyped}
use Rattle.inversion_laws.proofs.Misfits.{head_kept}
use Rattle.pattern_laws.proofs.Spines.{applied, applied_past, fits_instant, of_lams, flex_value_of, Ready, ready_back, keeps_variables, kept_place, ren_lams}
use Rattle.inversion_laws.proofs.Readings.{Stand, ready_on}
use Rattle.inversion_laws.proofs.Inversions.{renamed_joined, undone, forced, pruned_by}
use Rattle.pattern_laws.proofs.Inverse.{Within, inverse_past, inverse_applied, inverse_there, applied_inverse, typed_lams, lams_typed, joined_bodies, fitting_at, local_within}
use Rattle.pattern_laws.proofs.Instances.{instance_typed, typed_over, scoped_out, scoped_in, scoped_meta, instance}

-- The head of a neutral under arguments.
on_head : (ps : List Place) (n : PlainNeutral) → head_of (on ps n) ≡ head_of n
on_head [] n = refl
on_head (p ∷ ps) n = on_head ps n

-- what stands on locals over a problem's metavariables stands on them over parameters
pub fitting_over : (constants metas parameters : Types) (ls : Locals) (ps : List Place) → Fitting (scoped ls (closed constants metas)) ps → Fitting (scoped ls (over constants parameters)) ps
fitting_over constants metas parameters ls [] f = f
fitting_over constants metas parameters ls (p ∷ ps) f = (⊎_elim (λ e. inl (scoped_in constants metas parameters ls p.2 p.1 e).1) (λ e. inr e) f.0, fitting_over constants metas parameters ls ps f.1)

shown : (b : Bool) (x v : ℕ) → (if b then None else Some x) ≡ Some v → (b ≡ false) × (x ≡ v)
shown true x v e = absurd (cc)
shown false x v e = (refl, cc)

-- the places have locals
pub within : (constants metas : Types) (ls : Locals) (ps qs : List Place) → OwnPlaces (scoped ls (closed constants metas)) ps qs → Within (length ls) ps
within constants metas ls [] [] g i v e = absurd (cc)
within constants metas ls [] (q ∷ qs) g i v e = absurd g
within constants metas ls (p ∷ ps) [] g i v e = absurd g
within constants metas ls (p ∷ ps) (q ∷ qs) g (suc i) v e = within constants metas ls ps qs g.1 i v e
within constants metas ls (p ∷ ps) (q ∷ qs) g zero v e = let (b, h) = shown (blank p.1) p.2 v e in
    subst (λ k. k < length ls) (sym g.0.local ∙ h) (⊎_elim (λ o. (scoped_in constants metas metas ls q.2 q.1 o).0) (λ o. absurd (not_both o b)) g.0.own)

-- A local that stands at its own simple type has the type of its place.
pub local_type : (z : Assignment) (ps qs : List Place) → OwnPlaces z ps qs → (x : PlainObject) → LacksMisfits ps qs x → (y : Assignment) (i v : ℕ) → local_at ps i ≡ Some v → occurs v x ≡ true → z (Var v) ≡ beneath ps y (Var i)
local_type z [] [] g x l y i v e o = absurd (cc)
local_type z [] (q ∷ qs) g x l y i v e o = absurd g
local_type z (p ∷ ps) [] g x l y i v e o = absurd g
local_type z (p ∷ ps) (q ∷ qs) g x l y (suc i) v e o = local_type z ps qs g.1 x l.1 y i v e o
local_type z (p ∷ ps) (q ∷ qs) g x l y zero v e o = let (b, h) = shown (blank p.1) p.2 v e in
    ⊎_elim (λ k. ⊎_elim (λ u. ap (λ j. z (Var j)) (sym h ∙ g.0.local) ∙ u ∙ ap (λ t. Some t) (sym k)) (λ u. absurd (not_both u b)) g.0.own)
    (λ c. ⊎_elim (λ u. absurd (not_both u b)) (λ u. absurd (not_both o (subst (λ j. occurs j x ≡ false) h u))) c) l.0

away_past : (v n : ℕ) → v < n → (i : ℕ) → away v (i + n) ≡ i + n
away_past v n h i = stays_there v (i + n) (not_true (nat_eq (i + n) v) (λ e. far (same (i + n) v e)))
  where
    same : (i v : ℕ) → nat_eq i v ≡ true → i ≡ v
    same i v e = grind arith

    far : i + n ≡ v → ⊥
    far e = omega arith

-- A local that does not occur does not occur in instances.
pub absent_instance : (n : ℕ) (t : Instantiation) (v : ℕ) → v < n → (x w : PlainObject) → occurs v x ≡ false → Instantiated n t x w → occurs v w ≡ false
absent_instance n t v h x w e i = absent v w (determined (subst (λ o. Instantiated n t o (ren (away v) w)) (fixed v x e) (renamed (away v) (away v) (under n (instant t)) (fits_instant t n n (away v) (away_past v n h)) i)) i)

lacks_instance : (constants metas : Types) (ls : Locals) (ps qs : List Place) → OwnPlaces (scoped ls (closed constants metas)) ps qs → (t : Instantiation) (x w : PlainObject) → LacksMisfits ps qs x → Instantiated (length ls) t x w → LacksMisfits ps qs w
lacks_instance constants metas ls [] [] g t x w l i = tt
lacks_instance constants metas ls [] (q ∷ qs) g t x w l i = absurd g
lacks_instance constants metas ls (p ∷ ps) [] g t x w l i = absurd g
lacks_instance constants metas ls (p ∷ ps) (q ∷ qs) g t x w l i = (
  ⊎_elim (λ h. inl h) (λ c. inr (⊎_elim (λ h. inl h)
      (λ h. ⊎_elim (λ o. inr (absent_instance (length ls) t p.2 (subst (λ k. k < length ls) (sym g.0.local) (scoped_in constants metas metas ls q.2 q.1 o).0) x w h i)) (λ o. inl o) g.0.own) c)) l.0,
  lacks_instance constants metas ls ps qs g.1 t x w l.1 i,
)

lacks_joined : (ps qs : List Place) (x y : PlainObject) → Joined x y → LacksMisfits ps qs x → LacksMisfits ps qs y
lacks_joined [] qs x y j l = tt
lacks_joined (p ∷ ps) [] x y j l = tt
lacks_joined (p ∷ ps) (q ∷ qs) x y j l = (⊎_elim (λ h. inl h) (λ c. inr (⊎_elim (λ h. inl h) (λ h. inr (absent_joined p.2 j h)) c)) l.0, lacks_joined ps qs x y j l.1)

-- Where the lambda of no misfit is used the places are ready.
ready_where : (z : Assignment) (ps qs : List Place) → Stand z ps qs → (x : PlainObject) → LacksMisfits ps qs x → (y : Assignment) (c : PlainObject) (a : SimpleType) → Typed false (beneath ps y) c a
    → ((i v : ℕ) → local_at ps i ≡ Some v → occurs v x ≡ false → occurs i c ≡ false) → Ready z ps qs c
ready_where z [] [] g x l y c a t f = tt
ready_where z [] (q ∷ qs) g x l y c a t f = absurd g
ready_where z (p ∷ ps) [] g x l y c a t f = absurd g
ready_where z (p ∷ ps) (q ∷ qs) g x l y c a t f = (g.0, g.1, first, ready_where z ps qs g.4 x l.1 y (lam p.0 c) (arrow p.0 p.1 a) (typed_lam t) (λ i v e o. subst (λ j. occurs j c ≡ false) (sym (add-one i)) (f (suc i) v e o)))
  where
    of_blank : blank p.1 ≡ true → ((z (Var q.2) ≡ Some p.1) × (q.1 ≡ p.1)) ⊎ (occurs 0 c ≡ false)
    of_blank e = inr (blank_absent t 0 p.1 refl e)

    place_there : blank p.1 ≡ false → (if blank p.1 then None else Some p.2) ≡ Some p.2
    place_there e = rw e refl

    cases_of : (b : Bool) → (b ≡ true) ⊎ (b ≡ false)
    cases_of true = inl refl
    cases_of false = inr refl

    first : ((z (Var q.2) ≡ Some p.1) × (q.1 ≡ p.1)) ⊎ (occurs 0 c ≡ false)
    first = ⊎_elim (λ e. ⊎_elim (λ o. inl (o ∙ ap (λ u. Some u) (sym e), sym e)) of_blank g.3)
        (λ h. ⊎_elim of_blank (λ o. ⊎_elim of_blank (λ e. inr (f 0 p.2 (place_there e) o)) (cases_of (blank p.1))) h) l.0

-- the object of a metavariable of that type, and what it holds below the lambdas
pub given_body : (constants metas parameters : Types) (t : Instantiation) → Instantiates constants metas parameters t → (m : ℕ) (ps : List Place) (a : SimpleType) → metas m ≡ Some (arrows ps a)
    → (b : PlainObject) × (t m ≡ Some (lams ps b)) × Typed false (over constants parameters) (lams ps b) (arrows ps a) × Typed false (beneath ps (over constants parameters)) b a
given_body constants metas parameters t f m ps a e = let (o, g, p) = f m (arrows ps a) e in
    let (b, h, q) = typed_lams ps (instance_typed constants parameters o (arrows ps a) p) in
    (b, g ∙ ap (λ o. Some o) h, lams_typed ps q, q)

module _ (constants metas parameters : Types) (t : Instantiation) (f : Instantiates constants metas parameters t) (ls : Locals) (r : PlainNeutral) (m : ℕ) (ps qs : List Place) (a : SimpleType)
    (d : OnLocals (scoped ls (closed constants metas)) r m ps qs a) where
  pub meta_type : metas m ≡ Some (arrows ps a)
  meta_type = sym (scoped_meta ls (closed constants metas) m) ∙ d.type

  -- the places stand over parameters
  stand : (ps qs : List Place) → OwnPlaces (scoped ls (closed constants metas)) ps qs → Stand (scoped ls (over constants parameters)) ps qs
  stand [] [] g = tt
  stand [] (q ∷ qs) g = absurd g
  stand (p ∷ ps) [] g = absurd g
  stand (p ∷ ps) (q ∷ qs) g = let (x, i, tx) = instance constants metas parameters t f ls (eta q.1 (head_alone (Var q.2))) p.1 g.0.typed in (
    g.0.mode,
    g.0.local,
    subst (λ o. Typed false (scoped ls (over constants parameters)) o p.1) (determined i (kept_place (under (length ls) (instant t)) (keeps_variables (length ls) t) q.1 q.2)) (typed_over constants parameters ls x p.1 tx),
    ⊎_elim (λ o. inl (scoped_in constants metas parameters ls q.2 q.1 o).1) (λ o. inr o) g.0.own,
    stand ps qs g.1,
  )

  -- the instance of the metavariable on the locals
  flex_instance : (b : PlainObject) → t m ≡ Some (lams ps b) → Typed false (over constants parameters) (lams ps b) (arrows ps a) → Ready (scoped ls (over constants parameters)) ps qs b → Instantiated (length ls) t (atomic r) (ren (applied (length ls) ps) b)
  flex_instance b e q g = subst (λ n. Instantiated (length ls) t (atomic n) (ren (applied (length ls) ps) b)) (sym d.neutral)
      (flex_value_of (length ls) t m (over constants parameters) (scoped ls (over constants parameters)) ps qs b a (scoped_out ls (over constants parameters)) g e q)

  -- what is put for the metavariable
  there : (b : PlainObject) → t m ≡ Some (lams ps b) → HasValue (under (length ls) (instant t)) (head_alone (Meta m)) (lams ps (ren (lifted (length ps) (up (length ls))) b))
  there b e = value_bare (ap (λ i. ren_image (up (length ls)) (image_or (Meta m) i)) e ∙ ap put (ren_lams (up (length ls)) ps b))

  has_value : (b : PlainObject) → t m ≡ Some (lams ps b) → (v : PlainObject) → Instantiated (length ls) t (atomic r) v → HasValue (under (length ls) (instant t)) (on qs (head_alone (Meta m))) v
  has_value b e v i = subst (λ n. HasValue (under (length ls) (instant t)) n v) d.neutral (of_atomic r v i (subst (λ n. head_of n ≡ Meta m) (sym d.neutral) (on_head qs (head_alone (Meta m)))))
    where
      clash : {i : Image} {j : Head} {n : PlainObject} → i ≡ keep j → i ≡ put n → ⊥
      clash e f = cc

      put_there : under (length ls) (instant t) (Meta m) ≡ put (ren (up (length ls)) (lams ps b))
      put_there = ap (λ i. ren_image (up (length ls)) (image_or (Meta m) i)) e

      of_atomic : (n : PlainNeutral) (v : PlainObject) → Substituted (under (length ls) (instant t)) (atomic n) v → head_of n ≡ Meta m → HasValue (under (length ls) (instant t)) n v
      of_atomic n v (through_kept k) h = absurd (clash (head_kept k) (ap (under (length ls) (instant t)) h ∙ put_there))
      of_atomic n v (through_value k) h = k

  -- What the metavariable on the locals becomes, where the misfits do not occur in that: a renaming of what its object holds.
  pub side_value : (b : PlainObject) → t m ≡ Some (lams ps b) → Typed false (over constants parameters) (lams ps b) (arrows ps a) → (v : PlainObject) → Instantiated (length ls) t (atomic r) v → LacksMisfits ps qs v → v ≡ ren (applied (length ls) ps) b
  side_value b e q v i l = determined i (flex_instance b e q (ready_back (scoped ls (over constants parameters)) (up (length ls)) ps qs b
      (ready_on (under (length ls) (instant t)) (keeps_variables (length ls) t) (scoped ls (over constants parameters)) ps qs (stand ps qs d.places) (ren (lifted (length ps) (up (length ls))) b) a
      (subst (λ o. Typed false (scoped ls (over constants parameters)) o (arrows ps a)) (ren_lams (up (length ls)) ps b) (renamed_typed (scoped ls (over constants parameters)) (up (length ls)) q (scoped_out ls (over constants parameters))))
      (head_alone (Meta m)) (there b e) v (has_value b e v i) l)))

  -- so it is in an equation whose other side has no misfits
  pub solved_value : (b : PlainObject) → t m ≡ Some (lams ps b) → Typed false (over constants parameters) (lams ps b) (arrows ps a) → (x : PlainObject) → LacksMisfits ps qs x
      → (v w : PlainObject) → Instantiated (length ls) t (atomic r) v → Instantiated (length ls) t x w → Joined v w → v ≡ ren (applied (length ls) ps) b
  solved_value b e q x l v w i k j = side_value b e q v i (lacks_joined ps qs w v (joined_is_equivalence.1 v w j) (lacks_instance constants metas ls ps qs d.places t x w l k))

  -- Each instantiation that solves the equation with the side x gives the metavariable the inverted side, up to exchanges.
  pub solution_forced : (x : PlainObject) → LacksMisfits ps qs x → Solves (instant t) (record { locals = ls; left = atomic r; right = x; type = a })
      → (o w : PlainObject) × (t m ≡ Some o) × Substituted (instant t) (inverted (length ls) ps x) w × Joined o w
  solution_forced x l s = let (b, e, q, p) = given_body constants metas parameters t f m ps a meta_type in let (v, w, g, h, c) = s in
      let (o, i, j) = forced (length ls) t ps x w v b (inverse (length ls) ps) (solved_value b e q x l v w g h c)
      (inverse_past (length ls) ps (within constants metas ls ps qs d.places)) (inverse_applied (length ls) ps d.distinct (within constants metas ls ps qs d.places) (over constants parameters) b a p) h c in
      (lams ps b, o, e, i, j)

  -- Where the variables of x all stand at places, it solves the equation as soon as it agrees with the inverted side.
  pub solution_found : (x : PlainObject) → SimplyTyped (scoped ls (closed constants metas)) x a → LacksMisfits ps qs x → Covers ps x
      → (o w : PlainObject) → t m ≡ Some o → Substituted (instant t) (inverted (length ls) ps x) w → Joined o w
      → Solves (instant t) (record { locals = ls; left = atomic r; right = x; type = a })
  solution_found x tx l cov o w e s c = let (b, g, q, p) = given_body constants metas parameters t f m ps a meta_type in
      let (u, h, i) = of_lams t ps s in let (y, iy, ty) = instance constants metas parameters t f ls x a tx in
      let j = joined_bodies ps (subst (λ z. Joined z (lams ps u)) (the_object (sym e ∙ g)) (subst (λ z. Joined o z) h c)) in (
        ren (applied (length ls) ps) b,
        y,
        flex_instance b g q (ready_where (scoped ls (over constants parameters)) ps qs (stand ps qs d.places) x l (over constants parameters) b a p (λ k v n z. absent_joined k (joined_is_equivalence.1 b u j) (unused u i k v n z))),
        iy,
        subst (λ z. Joined (ren (applied (length ls) ps) b) z)
            (determined (subst (λ z. Instantiated (length ls) t z (ren (applied (length ls) ps) u)) (undone (applied (length ls) ps) (inverse (length ls) ps) x (λ j oc. applied_inverse (length ls) ps (cov j oc).0 j (cov j oc).1))
            (renamed (applied (length ls) ps) (applied (length ls) ps) (under (length ls) (instant t)) (fits_instant t (length ps) (length ls) (applied (length ls) ps) (applied_past (length ls) ps)) i)) iy)
            (renamed_joined (applied (length ls) ps) j),
      )
    where
      the_object : {o v : PlainObject} → Some o ≡ Some v → o ≡ v
      the_object e = cc

      the_number : {v w : ℕ} → Some v ≡ Some w → v ≡ w
      the_number e = cc

      -- The lambda of a place is not used where its local does not occur.
      unused : (u : PlainObject) → Instantiated (length ps) t (ren (inverse (length ls) ps) x) u → (k v : ℕ) → local_at ps k ≡ Some v → occurs v x ≡ false → occurs k u ≡ false
      unused u i k v n z = absent_instance (length ps) t k (local_within ps k v n) (ren (inverse (length ls) ps) x) u
          (not_true (occurs k (ren (inverse (length ls) ps) x)) (λ o. let (j, g, oc) = source (inverse (length ls) ps) x k o in
          not_both oc (subst (λ i. occurs i x ≡ false) (the_number (sym n ∙ ap (local_at ps) (sym g) ∙ inverse_there (length ls) ps (cov j oc).0 j (cov j oc).1)) z))) i

pub beneath_out : (ps : List Place) (y : Assignment) (h : Head) → beneath ps y (ren_head (up (length ps)) h) ≡ y h
beneath_out [] y (Const c) = refl
beneath_out [] y (Var i) = ap (λ j. y (Var j)) (none i)
  where
    none : (i : ℕ) → i + 0 ≡ i
    none i = omega arith
beneath_out [] y (Meta m) = refl
beneath_out (p ∷ ps) y (Const c) = beneath_out ps y (Const c)
beneath_out (p ∷ ps) y (Var i) = ap (λ j. extended p.1 (beneath ps y) (Var j)) (sum (length ps)) ∙ beneath_out ps y (Var i)
  where
    sum : (n : ℕ) → i + suc n ≡ suc (i + n)
    sum n = omega arith
beneath_out (p ∷ ps) y (Meta m) = beneath_out ps y (Meta m)

beneath_const : (ps : List Place) (constants parameters : Types) (c : ℕ) → beneath ps (over constants parameters) (Const c) ≡ constants c
beneath_const [] constants parameters c = refl
beneath_const (p ∷ ps) constants parameters c = beneath_const ps constants parameters c

beneath_meta : (ps : List Place) (constants parameters : Types) (c : ℕ) → beneath ps (over constants parameters) (Meta c) ≡ None
beneath_meta [] constants parameters c = refl
beneath_meta (p ∷ ps) constants parameters c = beneath_meta ps constants parameters c

-- The inverted side is closed and has the metavariable's type.
pub inverted_typed : InvertedIsTyped
inverted_typed constants metas ls r m ps qs a d x tx l cov = of_typed (lams_typed ps (typed_where (beneath ps (closed constants metas)) (inverse (length ls) ps) (to_typed true (scoped ls (closed constants metas)) x a tx) (
  (λ c. below_const ps c ∙ sym (scoped_const ls c)),
  (λ k. below_meta ps k ∙ sym (scoped_meta ls (closed constants metas) k)),
  (λ j oc. sym (local_type (scoped ls (closed constants metas)) ps qs d.places x l (closed constants metas) (inverse (length ls) ps j) j (inverse_there (length ls) ps (cov j oc).0 j (cov j oc).1) oc)),
)))
  where
    below_const : (ps : List Place) (c : ℕ) → beneath ps (closed constants metas) (Const c) ≡ constants c
    below_const [] c = refl
    below_const (p ∷ ps) c = below_const ps c

    below_meta : (ps : List Place) (c : ℕ) → beneath ps (closed constants metas) (Meta c) ≡ metas c
    below_meta [] c = refl
    below_meta (p ∷ ps) c = below_meta ps c

    scoped_const : (ls : Locals) (c : ℕ) → scoped ls (closed constants metas) (Const c) ≡ constants c
    scoped_const [] c = refl
    scoped_const (t ∷ ls) c = scoped_const ls c

-- A metavariable of which an instantiation mentions no other argument than those kept is one on these alone: v gives the new metavariable k what is left.
pub narrowed : (constants parameters : Types) (v : Instantiation) (k : ℕ) (ps qs : List Place) (a : SimpleType) (b : PlainObject)
    → Typed false (beneath ps (over constants parameters)) b a → Fitting (beneath ps (over constants parameters)) qs → Distinct qs → Within (length ps) qs
    → ((j : ℕ) → j < length ps → occurs j b ≡ true → (i : ℕ) × (local_at qs i ≡ Some j))
    → v k ≡ Some (inverted (length ps) qs b)
    → Substituted (instant v) (lams ps (atomic (on qs (head_alone (Meta k))))) (lams ps b) × SimplyTyped (over constants parameters) (inverted (length ps) qs b) (arrows qs a)
narrowed constants parameters v k ps qs a b t f d w cov e = (
  pruned_by v k (over constants parameters) (beneath ps (over constants parameters)) ps qs a b (inverse (length ps) qs) (beneath_out ps (over constants parameters)) f e shape back,
  eta_is_typed.1 (over constants parameters) (lams qs (ren (inverse (length ps) qs) b)) (arrows qs a) (of_typed shape),
)
  where
    back : (j : ℕ) → occurs j b ≡ true → applied (length ps) qs (inverse (length ps) qs j) ≡ j
    back j oc = ⊎_elim (λ h. let (i, g) = cov j h oc in applied_inverse (length ps) qs i j g)
        (λ h. subst (λ i. applied (length ps) qs (inverse (length ps) qs i) ≡ i) (again h) (ap (applied (length ps) qs) (inverse_past (length ps) qs w (j - length ps)) ∙ applied_past (length ps) qs (j - length ps)))
        (cut j (length ps))
      where
        again : length ps ≤ j → j - length ps + length ps ≡ j
        again h = omega arith

    same : (j : ℕ) → occurs j b ≡ true → beneath qs (over constants parameters) (Var (inverse (length ps) qs j)) ≡ beneath ps (over constants parameters) (Var j)
    same j oc = ⊎_elim (λ h. let (i, g) = cov j h oc in sym (fitting_at (beneath ps (over constants parameters)) qs f (over constants parameters) (inverse (length ps) qs j) j (inverse_there (length ps) qs i j g)))
        (λ h. subst (λ i. beneath qs (over constants parameters) (Var (inverse (length ps) qs i)) ≡ beneath ps (over constants parameters) (Var i)) (again h)
        (ap (λ i. beneath qs (over constants parameters) (Var i)) (inverse_past (length ps) qs w (j - length ps)) ∙ beneath_out qs (over constants parameters) (Var (j - length ps)) ∙ sym (beneath_out ps (over constants parameters) (Var (j - length ps)))))
        (cut j (length ps))
      where
        again : length ps ≤ j → j - length ps + length ps ≡ j
        again h = omega arith

    shape : Typed false (over constants parameters) (lams qs (ren (inverse (length ps) qs) b)) (arrows qs a)
    shape = lams_typed qs (typed_where (beneath qs (over constants parameters)) (inverse (length ps) qs) t
        ((λ c. beneath_const qs constants parameters c ∙ sym (beneath_const ps constants parameters c)), (λ m. beneath_meta qs constants parameters m ∙ sym (beneath_meta ps constants parameters m)), same))
