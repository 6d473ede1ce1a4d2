-- Steps keep a flat system flat.
use Rattle.std.specs.Prelude.{ℕ, Bool, true, false, suc, ◌≡◌, ◌&&◌, nat_eq, if◌then◌else◌, List, [], ◌∷◌, ◌++◌, length, Some, None, refl}
use Rattle.std.proofs.Common.{ap, sym, subst, ◌∙◌, ⊎_elim}
use Rattle.std.specs.List.{slice_get}
use Rattle.clf_syntax.specs.declared.tree.Head.TheVariants.{Meta}
use Rattle.clf_syntax.specs.Tree.{PlainObject, lam, atomic, head_alone, head_of}
use Rattle.clf_syntax.specs.TypeTree.{SimpleType, arrow}
use Rattle.clf_syntax.specs.Simple.{SimplyTyped}
use Rattle.clf_syntax.specs.Renaming.{ren}
use Rattle.clf_syntax.proofs.RenamingLaws.{ext}
use Rattle.hered_subst.specs.TypedEnvironments.{is_metavariable}
use Rattle.store_laws.specs.Additions.{Addition, new, meta_types, given, set}
use Rattle.store_laws.proofs.Numbers.{number_cases, set_there, set_else}
use Rattle.pattern_laws.specs.Instantiations.{closed}
use Rattle.pattern_laws.specs.Equations.{scoped, Equation, TypedEquation}
use Rattle.pattern_laws.specs.Patterns.{blank, Place, on, lams, arrows, OnDistinct, Ordered, SameTypes, inverse, inverted, masked, IsFinal}
use Rattle.pattern_laws.proofs.Owning.{on_locals}
use Rattle.pattern_laws.proofs.Spines.{head_on}
use Rattle.pattern_laws.proofs.Instances.{scoped_meta}
use Rattle.unify_laws.specs.Problems.{Grows}
use Rattle.unify_laws.proofs.Preserved.{grows_new}
use Rattle.reach_laws.proofs.Rests.{typed_listed}
use Rattle.reach_walk.proofs.OneReading.{Alike, alike_none, alike_more, alike_local, one_reading_on, stands_final}
use Rattle.flat_laws.specs.Flat.{flat_type, Flat}
use Rattle.flat_laws.proofs.FlatSteps.{flat_inverted, flat_narrowed}
use Rattle.solver_laws.specs.Solving.{unsolved_types}
use Rattle.solver_laws.specs.Steps.{flipped, Assigns, assigned_more, narrowed_more}
use Rattle.solver_laws.specs.Laws.{MayNarrow}
use Rattle.solver_laws.proofs.Grown.{more_scoped}
use Rattle.solver_laws.proofs.Stores.{types_in, types_new, types_solved, given_new, given_solved, no_type_yet, whole}
use Rattle.solver_laws.proofs.Allowed.{assign_is_allowed, narrow_is_allowed}
use Rattle.flat_systems.specs.Systems.{FlatStore, FlatEquation, FlatSystem}
use Rattle.flat_systems.specs.Laws.{FlatAssigns, FlatNarrows}
use Rattle.flat_systems.proofs.Grown.{flat_more}
use Rattle.flat_systems.proofs.Parts.{flat_flexible, flat_grows}

one_object : {a b : PlainObject} → Some a ≡ Some b → a ≡ b
one_object e = cc

one_type : {a b : SimpleType} → Some a ≡ Some b → a ≡ b
one_type e = cc

-- ---- a solution

lams_same : (ps qs : List Place) (b : PlainObject) → SameTypes ps qs → lams ps b ≡ lams qs b
lams_same [] [] b s = refl
lams_same [] (q ∷ qs) b s = absurd s
lams_same (p ∷ ps) [] b s = absurd s
lams_same (p ∷ ps) (q ∷ qs) b (m, t, s) = ap (λ k. lams ps (lam k b)) m ∙ lams_same ps qs (lam q.0 b) s

-- at places that are blank, no local is looked for
inverse_blank : (n j : ℕ) (ps zs : List Place) (v w : ℕ) (b c : Bool) → b ≡ true → c ≡ true → inverse n ps j ≡ inverse n zs j
    → (if (if b then false else nat_eq v j) then 0 else suc (inverse n ps j)) ≡ (if (if c then false else nat_eq w j) then 0 else suc (inverse n zs j))
inverse_blank n j ps zs v w true true e f h = ap suc h
inverse_blank n j ps zs v w true false e f h = absurd (cc)
inverse_blank n j ps zs v w false c e f h = absurd (cc)

inverse_alike : (n : ℕ) {ps qs zs ws : List Place} → Alike ps qs zs ws → (j : ℕ) → inverse n ps j ≡ inverse n zs j
inverse_alike n alike_none j = refl
inverse_alike n (alike_more {p = p} {p' = z} {ps = ps} {ps' = zs} a h) j = ⊎_elim
    (λ b. inverse_blank n j ps zs p.2 z.2 (blank p.1) (blank z.1) b (ap blank (sym a.type) ∙ b) (inverse_alike n h j))
    (λ k. ap (λ v. if (if blank p.1 then false else nat_eq v j) then 0 else suc (inverse n ps j)) k.0
    ∙ ap (λ u. if (if blank u then false else nat_eq z.2 j) then 0 else suc (inverse n ps j)) a.type ∙ ap (λ i. if (if blank z.1 then false else nat_eq z.2 j) then 0 else suc i) (inverse_alike n h j))
    a.local

inverted_alike : (n : ℕ) (ps qs zs ws : List Place) (x : PlainObject) → SameTypes ps zs → Alike ps qs zs ws → inverted n ps x ≡ inverted n zs x
inverted_alike n ps qs zs ws x s a = ap (λ r. lams ps (ren r x)) (ext (inverse_alike n a)) ∙ lams_same ps zs (ren (inverse n zs) x) s

-- The solution that a flat equation gives is flat.
assigned_flat : (constants : List SimpleType) (zs : List Addition) (e : Equation) → TypedEquation (slice_get constants) (types_in zs) e → FlatEquation (slice_get constants) (types_in zs) e
    → (m : ℕ) (o : PlainObject) → Assigns (slice_get constants) (types_in zs) e m o → (a : SimpleType) → types_in zs m ≡ Some a → Flat (closed (slice_get constants) (types_in zs)) o a
assigned_flat constants zs e typed flat m o h a t = of (flat_flexible (scoped e.locals (closed (slice_get constants) (types_in zs))) h.neutral e.type (subst (λ x. Flat (scoped e.locals (closed (slice_get constants) (types_in zs))) x e.type) h.is_left flat.0)
    (ap (λ q. is_metavariable (head_of q)) h.on_locals.neutral ∙ ap is_metavariable (head_on h.own (head_alone (Meta m)))))
  where
    final : IsFinal e.type
    final = stands_final (scoped e.locals (closed (slice_get constants) (types_in zs))) h.neutral e.type (subst (λ x. SimplyTyped (scoped e.locals (closed (slice_get constants) (types_in zs))) x e.type) h.is_left typed.0)

    of : (k : ℕ) × (ps : List Place) × OnDistinct (scoped e.locals (closed (slice_get constants) (types_in zs))) h.neutral k ps e.type × Ordered ps → Flat (closed (slice_get constants) (types_in zs)) o a
    of (k, ps, d, u) = let (i, s, b) = one_reading_on (scoped e.locals (closed (slice_get constants) (types_in zs))) h.neutral m k h.places h.own ps ps e.type final h.on_locals (on_locals (scoped e.locals (closed (slice_get constants) (types_in zs))) h.neutral k ps e.type d) in
        subst (λ x. Flat (closed (slice_get constants) (types_in zs)) x a) (sym (h.solution ∙ inverted_alike (length e.locals) h.places h.own ps ps e.right s b))
        (subst (Flat (closed (slice_get constants) (types_in zs)) (inverted (length e.locals) ps e.right)) (one_type (sym d.type ∙ scoped_meta e.locals (closed (slice_get constants) (types_in zs)) k ∙ ap (types_in zs) (sym i) ∙ t))
        (flat_inverted (slice_get constants) (types_in zs) e.locals h.neutral k ps e.type d u e.right flat.1 (λ j c. let (n, l) = h.covers j c in (n, sym (alike_local b n) ∙ l))))

-- the store with one more solution
store_assigned : (constants : List SimpleType) (zs : List Addition) (m : ℕ) (o : PlainObject) → given zs m ≡ None → FlatStore constants zs
    → ((a : SimpleType) → types_in zs m ≡ Some a → Flat (closed (slice_get constants) (types_in zs)) o a) → FlatStore constants (assigned_more zs m o)
store_assigned constants zs m o unsolved flat f = record {
  types = (λ k a e. flat.types k a (sym (ap (λ h. h k) (types_solved zs m o)) ∙ e));
  solutions = (λ k u a e t. subst (λ ts. Flat (closed (slice_get constants) ts) u a) (sym (types_solved zs m o)) (at k u a (sym (ap (λ h. h k) (given_solved zs m o unsolved)) ∙ e) (sym (ap (λ h. h k) (types_solved zs m o)) ∙ t)));
}
  where
    at : (k : ℕ) (u : PlainObject) (a : SimpleType) → set m o (given zs) k ≡ Some u → types_in zs k ≡ Some a → Flat (closed (slice_get constants) (types_in zs)) u a
    at k u a e t = ⊎_elim
        (λ h. subst (λ x. Flat (closed (slice_get constants) (types_in zs)) x a) (one_object (sym (set_there m o (given zs)) ∙ sym (ap (set m o (given zs)) h) ∙ e)) (f a (ap (types_in zs) (sym h) ∙ t)))
        (λ h. flat.solutions k u a (sym (set_else m k o (given zs) h) ∙ e) t) (number_cases k m)

pub flat_assigns : FlatAssigns
flat_assigns constants zs es ready all_open flat e l m o c = flat_grows constants zs (assigned_more zs m o) es flat
    (λ k a t. ap (λ h. h k) (types_solved zs m o) ∙ t)
    (store_assigned constants zs m o unsolved flat.store (λ a t. ⊎_elim
    (λ h. assigned_flat constants zs e typed (flat.equations e l) m o h a t)
    (λ h. assigned_flat constants zs (flipped e) (typed.1, typed.0) ((flat.equations e l).1, (flat.equations e l).0) m o h a t) c))
  where
    typed : TypedEquation (slice_get constants) (types_in zs) e
    typed = typed_listed (slice_get constants) (types_in zs) e es l ready.typed

    unsolved : given zs m ≡ None
    unsolved = (assign_is_allowed constants zs es ready e (typed_listed (slice_get constants) (unsolved_types (types_in zs) (given zs)) e es l all_open) m o c).unsolved

-- ---- a new metavariable on fewer arguments

and_true : (a b : Bool) → a ≡ true → b ≡ true → a && b ≡ true
and_true a b e f = rw (e, f) refl

and_first : (a b : Bool) → a && b ≡ true → a ≡ true
and_first true b e = refl
and_first false b e = absurd (cc)

and_second : (a b : Bool) → a && b ≡ true → b ≡ true
and_second true b e = e
and_second false b e = absurd (cc)

-- each place has a flat type
abbrev FlatPlaces : List Place → Type 0
FlatPlaces [] = Unit {0}
FlatPlaces (p ∷ ps) = (flat_type p.1 ≡ true) × FlatPlaces ps

places_flat : (ps : List Place) (c : SimpleType) → flat_type (arrows ps c) ≡ true → FlatPlaces ps × (flat_type c ≡ true)
places_flat [] c e = (tt, e)
places_flat (p ∷ ps) c e = let (f, h) = places_flat ps (arrow p.0 p.1 c) e in ((and_first (flat_type p.1) (flat_type c) h, f), and_second (flat_type p.1) (flat_type c) h)

arrows_flat : (ps : List Place) (c : SimpleType) → FlatPlaces ps → flat_type c ≡ true → flat_type (arrows ps c) ≡ true
arrows_flat [] c f e = e
arrows_flat (p ∷ ps) c (h, f) e = arrows_flat ps (arrow p.0 p.1 c) f (and_true (flat_type p.1) (flat_type c) h e)

masked_flat : (i : ℕ) (bs : List Bool) (ps : List Place) → FlatPlaces ps → FlatPlaces (masked i bs ps)
masked_flat i [] ps f = tt
masked_flat i (b ∷ bs) [] f = tt
masked_flat i (true ∷ bs) (p ∷ ps) (h, f) = (h, masked_flat (suc i) bs ps f)
masked_flat i (false ∷ bs) (p ∷ ps) (h, f) = masked_flat (suc i) bs ps f

fewer_flat : (bs : List Bool) (ps : List Place) (c : SimpleType) → flat_type (arrows ps c) ≡ true → flat_type (arrows (masked 0 bs ps) c) ≡ true
fewer_flat bs ps c e = let (f, h) = places_flat ps c e in arrows_flat (masked 0 bs ps) c (masked_flat 0 bs ps f) h

module _ (constants : List SimpleType) (zs : List Addition) (es : List Equation) (k : ℕ) (mask : List Bool) (ps : List Place) (c : SimpleType) (flat : FlatStore constants zs)
    (type_of : types_in zs k ≡ Some (arrows ps c)) (unsolved : given (zs ++ new (arrows (masked 0 mask ps) c) ∷ []) k ≡ None)
    (gives : (j : ℕ) (o : PlainObject) → given zs j ≡ Some o → (a : SimpleType) × (types_in zs j ≡ Some a)) where
  abbrev solution : PlainObject
  solution = lams ps (atomic (on (masked 0 mask ps) (head_alone (Meta (length (meta_types zs))))))

  narrowed_types : types_in (narrowed_more zs k mask ps c) ≡ set (length (meta_types zs)) (arrows (masked 0 mask ps) c) (types_in zs)
  narrowed_types = types_solved (zs ++ new (arrows (masked 0 mask ps) c) ∷ []) k solution ∙ types_new zs (arrows (masked 0 mask ps) c)

  narrowed_solutions : given (narrowed_more zs k mask ps c) ≡ set k solution (given zs)
  narrowed_solutions = given_solved (zs ++ new (arrows (masked 0 mask ps) c) ∷ []) k solution unsolved ∙ ap (set k solution) (given_new zs (arrows (masked 0 mask ps) c))

  narrowed_grows : Grows (types_in zs) (types_in (narrowed_more zs k mask ps c))
  narrowed_grows m a e = ap (λ h. h m) narrowed_types ∙ grows_new (types_in zs) (length (meta_types zs)) (arrows (masked 0 mask ps) c) (no_type_yet zs) m a e

  type_then : (j : ℕ) (a : SimpleType) → types_in (narrowed_more zs k mask ps c) j ≡ Some a → flat_type a ≡ true
  type_then j a e = ⊎_elim
      (λ h. subst (λ t. flat_type t ≡ true) (one_type (sym (set_there (length (meta_types zs)) (arrows (masked 0 mask ps) c) (types_in zs)) ∙ sym (ap (set (length (meta_types zs)) (arrows (masked 0 mask ps) c) (types_in zs)) h) ∙ sym (ap (λ t. t j) narrowed_types) ∙ e))
      (fewer_flat mask ps c (flat.types k (arrows ps c) type_of)))
      (λ h. flat.types j a (sym (set_else (length (meta_types zs)) j (arrows (masked 0 mask ps) c) (types_in zs) h) ∙ sym (ap (λ t. t j) narrowed_types) ∙ e)) (number_cases j (length (meta_types zs)))

  older : (j : ℕ) (u : PlainObject) (a : SimpleType) → given zs j ≡ Some u → types_in (narrowed_more zs k mask ps c) j ≡ Some a → Flat (closed (slice_get constants) (types_in (narrowed_more zs k mask ps c))) u a
  older j u a e t = let (b, i) = gives j u e in flat_more (closed (slice_get constants) (types_in zs)) (closed (slice_get constants) (types_in (narrowed_more zs k mask ps c)))
      (more_scoped (slice_get constants) (types_in zs) (types_in (narrowed_more zs k mask ps c)) [] narrowed_grows) u a (flat.solutions j u a e (subst (λ d. types_in zs j ≡ Some d) (one_type (sym (narrowed_grows j b i) ∙ t)) i))

  newer : (a : SimpleType) → types_in (narrowed_more zs k mask ps c) k ≡ Some a → Flat (closed (slice_get constants) (types_in (narrowed_more zs k mask ps c))) solution a
  newer a t = subst (Flat (closed (slice_get constants) (types_in (narrowed_more zs k mask ps c))) solution) (one_type (sym (narrowed_grows k (arrows ps c) type_of) ∙ t))
      (flat_narrowed (slice_get constants) (types_in (narrowed_more zs k mask ps c)) (length (meta_types zs)) mask ps c
      (ap (λ h. h (length (meta_types zs))) narrowed_types ∙ set_there (length (meta_types zs)) (arrows (masked 0 mask ps) c) (types_in zs)))

  store_narrowed : FlatStore constants (narrowed_more zs k mask ps c)
  store_narrowed = record { types = type_then; solutions = (λ j u a e t. at j u a (sym (ap (λ h. h j) narrowed_solutions) ∙ e) t) }
    where
      at : (j : ℕ) (u : PlainObject) (a : SimpleType) → set k solution (given zs) j ≡ Some u → types_in (narrowed_more zs k mask ps c) j ≡ Some a → Flat (closed (slice_get constants) (types_in (narrowed_more zs k mask ps c))) u a
      at j u a e t = ⊎_elim
          (λ h. subst (λ x. Flat (closed (slice_get constants) (types_in (narrowed_more zs k mask ps c))) x a) (one_object (sym (set_there k solution (given zs)) ∙ sym (ap (set k solution (given zs)) h) ∙ e)) (newer a (ap (types_in (narrowed_more zs k mask ps c)) (sym h) ∙ t)))
          (λ h. older j u a (sym (set_else k j solution (given zs) h) ∙ e) t) (number_cases j k)

  system_narrowed : FlatSystem constants zs es → FlatSystem constants (narrowed_more zs k mask ps c) es
  system_narrowed f = flat_grows constants zs (narrowed_more zs k mask ps c) es f narrowed_grows store_narrowed

pub flat_narrows : FlatNarrows
flat_narrows constants zs es ready all_open flat e l k mask ps c h = system_narrowed constants zs es k mask ps c flat.store
    (⊎_elim (λ n. n.type) (λ n. n.type) h) may.still
    (λ j o g. let (a, i, p) = (whole constants zs ready.store).given_types j o g in (a, i)) flat
  where
    may : MayNarrow constants zs k mask ps c es
    may = narrow_is_allowed constants zs es ready e (typed_listed (slice_get constants) (unsolved_types (types_in zs) (given zs)) e es l all_open) k mask ps c h
