-- What was read of a typed neutral puts its metavariable on locals, and each metavariable on locals is read so.
use Rattle.std.specs.Prelude.{ℕ, ◌≡◌, ◌&&◌, Bool, true, false, List, [], ◌∷◌, ◌++◌, map, reverse, Some, refl}
use Rattle.std.specs.List.{slice_get}
use Rattle.std.proofs.Common.{ap, sym, ◌∙◌, subst, inl, inr, ⊎_elim, append_assoc}
use Rattle.std.proofs.lemmas.List.{map-append, reverse-append}
use Rattle.clf_syntax.specs.declared.tree.Mode.{Mode}
use Rattle.clf_syntax.specs.declared.tree.Head.TheVariants.{Var, Meta}
use Rattle.clf_syntax.specs.Tree.{PlainObject, PlainNeutral, head_alone, app, fst, snd, PlainElimination, arg, first, second, spine_on}
use Rattle.clf_syntax.specs.TypeTree.{SimpleType, base, arrow, simple_with, simple_top, lax}
use Rattle.clf_syntax.specs.Simple.{Assignment, no_holes, SimplyTyped, SimplyTypedNeutral}
use Rattle.hered_subst.proofs.SimpleTyping.{Typed, typed_lam, typed_pair, typed_unit, typed_monadic, typed_metavariable, typed_atomic, to_typed}
use Rattle.subst_laws.proofs.Variables.{neutral_has_one_type}
use Rattle.eta_laws.specs.Eta.{eta}
use Rattle.pattern_laws.specs.Patterns.{Place as PlainPlace, blank, is_blank, on, arrows, OwnPlace, OwnPlaces}
use Rattle.pattern_laws.proofs.TypeParts.{from_type}
use Rattle.pattern_laws.proofs.Typings.{blank_is}
use Rattle.celf_constraints.specs.Read.{Reading, place_of, own_of, ReadAs, Reads}

-- a list that is turned round, with its first element put behind
pub onto : {X Y : Type 0} (f : X → Y) (x : X) (xs : List X) (ys : List Y) → map f (reverse (x ∷ xs)) ++ ys ≡ map f (reverse xs) ++ f x ∷ ys
onto f x xs ys = ap (λ zs. map f zs ++ ys) (reverse-append (x ∷ []) xs) ∙ ap (λ zs. zs ++ ys) (map-append f (reverse xs) (x ∷ [])) ∙ append_assoc (map f (reverse xs)) (f x ∷ []) ys

-- A typed object at a blank type is blank.
blank_object : {w : Bool} {g : Assignment} {o : PlainObject} {t : SimpleType} → Typed w g o t → blank t ≡ true → is_blank o ≡ true
blank_object (typed_lam p) e = blank_object p e
blank_object (typed_pair {l = l} {r = r} {c = c} {d = d} p q) e = of (is_blank l) (is_blank r) (blank c) (blank d) (blank_object p) (blank_object q) e
  where
    of : (a b c d : Bool) → (c ≡ true → a ≡ true) → (d ≡ true → b ≡ true) → c && d ≡ true → a && b ≡ true
    of a b true true f g e = rw (f refl, g refl) refl
    of a b true false f g e = absurd (cc)
    of a b false d f g e = absurd (cc)
blank_object typed_unit e = refl
blank_object (typed_monadic p) e = absurd (cc)
blank_object (typed_metavariable i p k) e = absurd (cc)
blank_object (typed_atomic p) e = absurd (cc)

module _ (z : Assignment) (vs : List SimpleType) where
  -- the type of what stands under a spine
  inner_type : (es : List PlainElimination) (r : PlainNeutral) (t : SimpleType) → SimplyTypedNeutral z (spine_on es r) t → (u : SimpleType) × SimplyTypedNeutral z r u
  inner_type [] r t p = (t, p)
  inner_type (arg m o ∷ es) r t p = let (u, q) = inner_type es (app m r o) t p in (arrow m q.0 u, q.1)
  inner_type (first ∷ es) r t p = let (u, q) = inner_type es (fst r) t p in (simple_with u q.0, q.1)
  inner_type (second ∷ es) r t p = let (u, q) = inner_type es (snd r) t p in (simple_with q.0 u, q.1)

  pub record At (m : ℕ) (n : PlainNeutral) (ps qs : List PlainPlace) (t : SimpleType) : Type 0 where
    pub neutral : n ≡ on qs (head_alone (Meta m))
    pub type : z (Meta m) ≡ Some (arrows ps t)
    pub places : OwnPlaces z ps qs

  module _ (known : (i : ℕ) (u : SimpleType) → slice_get vs i ≡ Some u → z (Var i) ≡ Some u) where
    form_of : (d : SimpleType) (o : PlainObject) (m : Mode) (r : Reading) → ReadAs vs m d o r → SimplyTyped z o d → o ≡ eta r.own (head_alone (Var r.local))
    form_of d o m r a p = ⊎_elim
        (λ h. sym (ap (λ t. eta t (head_alone (Var r.local))) h.1 ∙ (blank_is (to_typed true z o d p) (blank_object (to_typed true z o d p) h.0)).1 (head_alone (Var r.local))))
        (λ h. h.1.form) a.local

    own_place_of : (d : SimpleType) (o : PlainObject) (m : Mode) (r : Reading) → ReadAs vs m d o r → SimplyTyped z o d → OwnPlace z (place_of r) (own_of r)
    own_place_of d o m r a p = record {
      mode = refl;
      local = refl;
      typed = subst (SimplyTyped z (eta r.own (head_alone (Var r.local)))) (sym a.type) (subst (λ x. SimplyTyped z x d) (form_of d o m r a p) p);
      own = ⊎_elim (λ h. inr (ap blank a.type ∙ h.0)) (λ h. inl (known r.local r.own h.1.known)) a.local;
    }

    pub located : (m : ℕ) (es : List PlainElimination) (n : PlainNeutral) (t : SimpleType) (rs : List Reading) (u : SimpleType) (ps qs : List PlainPlace) → Reads vs es t rs u → At m n ps qs t → SimplyTypedNeutral z n t
        → (x : SimpleType) → SimplyTypedNeutral z (spine_on es n) x → At m (spine_on es n) (map place_of (reverse rs) ++ ps) (map own_of (reverse rs) ++ qs) x
    located m [] n t [] u ps qs a at p x q = subst (At m n ps qs) (neutral_has_one_type (no_holes true) z n t x p q) at
    located m [] n t (r ∷ rs) u ps qs a at p x q = absurd a
    located m (arg k o ∷ es) n (arrow l d c) [] u ps qs a at p x q = absurd a
    located m (arg k o ∷ es) n (arrow l d c) (r ∷ rs) u ps qs a at p x q =
        let (y, i) = inner_type es (app k n o) x q in
        let e : arrow l d c ≡ arrow k i.0 y = neutral_has_one_type (no_holes true) z n (arrow l d c) (arrow k i.0 y) p i.1 in
        let typed : SimplyTyped z o d = subst (SimplyTyped z o) (from_type e) i.2 in
        let here : At m (app k n o) (place_of r ∷ ps) (own_of r ∷ qs) c = record {
          neutral = ap (λ h. app h n o) (a.0 ∙ sym a.1.mode) ∙ ap (λ h. app r.mode h o) at.neutral ∙ ap (app r.mode (on qs (head_alone (Meta m)))) (form_of d o l r a.1 typed);
          type = at.type ∙ ap (λ h. Some (arrows ps (arrow h d c))) (sym a.1.mode) ∙ ap (λ h. Some (arrows ps (arrow r.mode h c))) (sym a.1.type);
          places = (own_place_of d o l r a.1 typed, at.places);
        } in
        let there = located m es (app k n o) c rs u (place_of r ∷ ps) (own_of r ∷ qs) a.2 here (d, subst (λ h. SimplyTypedNeutral z n (arrow h d c)) (sym a.0) p, typed) x q in
        subst (λ l. At m (spine_on es (app k n o)) l (map own_of (reverse (r ∷ rs)) ++ qs) x) (sym (onto place_of r rs ps))
        (subst (λ l. At m (spine_on es (app k n o)) (map place_of (reverse rs) ++ place_of r ∷ ps) l x) (sym (onto own_of r rs qs)) there)
    located m (arg k o ∷ es) n (base f) rs u ps qs a at p x q = absurd a
    located m (arg k o ∷ es) n (simple_with c d) rs u ps qs a at p x q = absurd a
    located m (arg k o ∷ es) n simple_top rs u ps qs a at p x q = absurd a
    located m (arg k o ∷ es) n (lax ts) rs u ps qs a at p x q = absurd a
    located m (first ∷ es) n t rs u ps qs a at p x q = absurd a
    located m (second ∷ es) n t rs u ps qs a at p x q = absurd a
