-- A metavariable on locals that stand at their own types is on distinct locals, and the other way round.
use Rattle.std.specs.Prelude.{ℕ, Bool, true, false, zero, suc, ◌≡◌, ◌⊎◌, ◌&&◌, ◌==◌, if◌then◌else◌, List, [], ◌∷◌, Some, None, refl}
use Rattle.std.proofs.Common.{ap, sym, ◌∙◌, arith, inl, inr, ⊎_elim}
use Rattle.clf_syntax.specs.declared.tree.Mode.{Mode}
use Rattle.clf_syntax.specs.declared.tree.Head.TheVariants.{Var, Meta}
use Rattle.clf_syntax.specs.Tree.{PlainObject, PlainNeutral, head_alone, app}
use Rattle.clf_syntax.specs.TypeTree.{SimpleType}
use Rattle.clf_syntax.specs.Simple.{Assignment}
use Rattle.clf_syntax.specs.Occurs.{occurs, occurs_neutral}
use Rattle.clf_syntax.proofs.OccursLaws.{either, not_both}
use Rattle.hered_subst.proofs.SimpleTyping.{Typed, typed_lam, typed_pair, typed_unit, typed_monadic, typed_metavariable, typed_atomic, to_typed}
use Rattle.eta_laws.specs.Eta.{eta}
use Rattle.pattern_laws.specs.Patterns.{Place, IsFinal, on, blank, is_blank, local_at, Fitting, OwnPlaces, OnDistinct, OnLocals}
use Rattle.pattern_laws.proofs.EtaVariables.{eta_source}
use Rattle.pattern_laws.proofs.Owning.{on_locals, blank_typed}
use Rattle.pattern_laws.proofs.Typings.{blank_is, blank_absent}
use Rattle.reach_walk.specs.Fits.{FitsOwn}
use Rattle.reach_walk.proofs.OneReading.{Alike, alike_none, alike_more, one_reading_on}

the_number : (i v : ℕ) → i == v ≡ true → i ≡ v
the_number i v e = grind arith

cases_of : (b : Bool) → (b ≡ true) ⊎ (b ≡ false)
cases_of true = inl refl
cases_of false = inr refl

-- A typed object at a blank type is blank.
blank_object : {w : Bool} {g : Assignment} {o : PlainObject} {t : SimpleType} → Typed w g o t → blank t ≡ true → is_blank o ≡ true
blank_object (typed_lam p) e = blank_object p e
blank_object (typed_pair {l = l} {r = r} {c = c} {d = d} p q) e = of (is_blank l) (is_blank r) (blank c) (blank d) (blank_object p) (blank_object q) e
  where
    of : (a b c d : Bool) → (c ≡ true → a ≡ true) → (d ≡ true → b ≡ true) → c && d ≡ true → a && b ≡ true
    of a b true true f g e = rw (f refl, g refl) refl
    of a b true false f g e = absurd (cc)
    of a b false d f g e = absurd (cc)
blank_object typed_unit e = refl
blank_object (typed_monadic p) e = absurd (cc)
blank_object (typed_metavariable i p k) e = absurd (cc)
blank_object (typed_atomic p) e = absurd (cc)

-- At a blank type all eta-long forms that are typed there are one.
pub one_blank : (z : Assignment) (d : SimpleType) (o : PlainObject) → blank d ≡ true → Typed true z o d → (n : PlainNeutral) → eta d n ≡ o
one_blank z d o e t n = (blank_is t (blank_object t e)).1 n

applied : {m k : Mode} {r s : PlainNeutral} {o u : PlainObject} → m ≡ k → r ≡ s → o ≡ u → app m r o ≡ app k s u
applied e f h = cc

pub same_on : (z : Assignment) (ps qs : List Place) (r : PlainNeutral) → OwnPlaces z ps qs → FitsOwn ps qs → on qs r ≡ on ps r
same_on z [] [] r o f = refl
same_on z [] (q ∷ qs) r o f = absurd o
same_on z (p ∷ ps) [] r o f = absurd o
same_on z (p ∷ ps) (q ∷ qs) r o f = applied (sym o.0.mode) (same_on z ps qs r o.1 f.1) (⊎_elim
    (λ e. ap (λ t. eta t (head_alone (Var q.2))) (sym e) ∙ ap (λ v. eta p.1 (head_alone (Var v))) (sym o.0.local))
    (λ e. sym (one_blank z p.1 (eta q.1 (head_alone (Var q.2))) e (to_typed true z (eta q.1 (head_alone (Var q.2))) p.1 o.0.typed) (head_alone (Var p.2))))
    f.0)

fitting_of : (z : Assignment) (ps qs : List Place) → OwnPlaces z ps qs → FitsOwn ps qs → Fitting z ps
fitting_of z [] [] o f = tt
fitting_of z [] (q ∷ qs) o f = absurd o
fitting_of z (p ∷ ps) [] o f = absurd o
fitting_of z (p ∷ ps) (q ∷ qs) o f = (
  ⊎_elim
      (λ e. ⊎_elim (λ h. inl (ap (λ v. z (Var v)) o.0.local ∙ h ∙ ap (λ t. Some t) (sym e))) (λ h. inr h) o.0.own)
      (λ e. inr e) f.0,
  fitting_of z ps qs o.1 f.1,
)

pub distinct_of : (z : Assignment) (n : PlainNeutral) (k : ℕ) (ps qs : List Place) (t : SimpleType) → OnLocals z n k ps qs t → FitsOwn ps qs → OnDistinct z n k ps t
distinct_of z n k ps qs t o f = record { neutral = o.neutral ∙ same_on z ps qs (head_alone (Meta k)) o.places f; type = o.type; fitting = fitting_of z ps qs o.places f; distinct = o.distinct }

fits_alike : {ps qs zs ws : List Place} → Alike ps qs zs ws → zs ≡ ws → FitsOwn ps qs
fits_alike alike_none e = tt
fits_alike (alike_more {p = p} {q = q} {p' = p'} {q' = q'} a h) e = (⊎_elim (λ b. inr b) (λ k. inl (a.type ∙ ap (λ y. y.1) (first_of e) ∙ sym k.1)) a.local, fits_alike h (rest_of e))
  where
    first_of : {x y : Place} {xs ys : List Place} → x ∷ xs ≡ y ∷ ys → x ≡ y
    first_of e = cc

    rest_of : {x y : Place} {xs ys : List Place} → x ∷ xs ≡ y ∷ ys → xs ≡ ys
    rest_of e = cc

pub not_distinct : (z : Assignment) (n : PlainNeutral) (k : ℕ) (ps qs : List Place) (t : SimpleType) → IsFinal t → OnLocals z n k ps qs t → (FitsOwn ps qs → ⊥) → (m : ℕ) (zs : List Place) → OnDistinct z n m zs t → ⊥
not_distinct z n k ps qs t fin o h m zs d = let (e, s, a) = one_reading_on z n k m ps qs zs zs t fin o (on_locals z n m zs t d) in h (fits_alike a refl)

-- What occurs in a metavariable on distinct locals stands at a place.
pub occurs_on : (zs : List Place) (k w : ℕ) → occurs_neutral w (on zs (head_alone (Meta k))) ≡ true → (i : ℕ) × (local_at zs i ≡ Some w)
occurs_on [] k w e = absurd (cc)
occurs_on (z ∷ zs) k w e = ⊎_elim
    (λ h. let (i, p) = occurs_on zs k w h in (suc i, p))
    (λ h. (zero, there (blank z.1) (λ b. blank_absent (blank_typed true (λ j. Some z.1) z.1 (head_alone (Var z.2)) b) w z.1 refl b) h (the_number z.2 w (eta_source z.1 (head_alone (Var z.2)) w h))))
    (either (occurs_neutral w (on zs (head_alone (Meta k)))) (occurs w (eta z.1 (head_alone (Var z.2)))) e)
  where
    there : (b : Bool) → (b ≡ true → occurs w (eta z.1 (head_alone (Var z.2))) ≡ false) → occurs w (eta z.1 (head_alone (Var z.2))) ≡ true → z.2 ≡ w → (if b then None else Some z.2) ≡ Some w
    there true f h e = absurd (not_both h (f refl))
    there false f h e = ap (λ v. Some v) e
