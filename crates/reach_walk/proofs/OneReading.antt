-- The places of a metavariable on locals are determined by the neutral: the locals, and their own types.
use Rattle.std.specs.Prelude.{ℕ, Bool, true, false, zero, suc, ◌≡◌, ◌⊎◌, ◌==◌, if◌then◌else◌, List, [], ◌∷◌, Some, None, refl}
use Rattle.std.proofs.Common.{ap, sym, subst, ◌∙◌, arith, inl, inr, ⊎_elim}
use Rattle.clf_syntax.specs.declared.tree.Mode.{Mode}
use Rattle.clf_syntax.specs.declared.tree.Head.TheVariants.{Var, Meta}
use Rattle.clf_syntax.specs.Tree.{PlainObject, PlainNeutral, head_alone, app, head_of, atomic}
use Rattle.clf_syntax.specs.TypeTree.{SimpleType}
use Rattle.clf_syntax.specs.Simple.{Assignment, SimplyTyped}
use Rattle.clf_syntax.specs.Occurs.{occurs}
use Rattle.clf_syntax.proofs.OccursLaws.{not_both, not_true, own_number}
use Rattle.hered_subst.proofs.SimpleTyping.{to_typed}
use Rattle.eta_laws.specs.Eta.{eta}
use Rattle.pattern_laws.specs.Patterns.{Place, IsFinal, on, blank, local_at, OwnPlace, OwnPlaces, OnLocals, SameTypes, LacksMisfits}
use Rattle.pattern_laws.proofs.EtaVariables.{eta_there, eta_source}
use Rattle.pattern_laws.proofs.Places.{same_types}
use Rattle.pattern_laws.proofs.Typings.{blank_is}
use Rattle.pattern_laws.proofs.Spines.{head_on}
use Rattle.inversion_laws.proofs.Misfits.{blank_eta}

function_of : {m k : Mode} {r s : PlainNeutral} {o u : PlainObject} → app m r o ≡ app k s u → r ≡ s
function_of e = cc

argument_of : {m k : Mode} {r s : PlainNeutral} {o u : PlainObject} → app m r o ≡ app k s u → o ≡ u
argument_of e = cc

number_of : {m k : ℕ} → head_alone (Meta m) ≡ head_alone (Meta k) → m ≡ k
number_of e = cc

the_number : (i v : ℕ) → i == v ≡ true → i ≡ v
the_number i v e = grind arith

one_type : {c d : SimpleType} → Some c ≡ Some d → c ≡ d
one_type e = cc

cases_of : (b : Bool) → (b ≡ true) ⊎ (b ≡ false)
cases_of true = inl refl
cases_of false = inr refl

-- the same local with the same own type, at one type
pub record AlikePlace (p q p' q' : Place) : Type 0 where
  pub type : p.1 ≡ p'.1
  pub local : (blank p.1 ≡ true) ⊎ ((p.2 ≡ p'.2) × (q.1 ≡ q'.1))

pub data Alike : List Place → List Place → List Place → List Place → Type 0 where
  alike_none : Alike [] [] [] []
  alike_more : {p q p' q' : Place} {ps qs ps' qs' : List Place} → AlikePlace p q p' q' → Alike ps qs ps' qs' → Alike (p ∷ ps) (q ∷ qs) (p' ∷ ps') (q' ∷ qs')

module _ (z : Assignment) where
  -- The own type of a place that is not blank is not blank.
  own_shown : (p q : Place) → OwnPlace z p q → blank p.1 ≡ false → blank q.1 ≡ false
  own_shown p q o e = not_true (blank q.1) (λ k. not_both (blank_is (to_typed true z (eta q.1 (head_alone (Var q.2))) p.1 o.typed) (blank_eta q.1 (head_alone (Var q.2)) k)).0 e)

  own_type : (p q : Place) → OwnPlace z p q → blank p.1 ≡ false → z (Var q.2) ≡ Some q.1
  own_type p q o e = ⊎_elim (λ h. h) (λ h. absurd (not_both h e)) o.own

  same_local : (u u' : SimpleType) (v v' : ℕ) → blank u ≡ false → eta u (head_alone (Var v)) ≡ eta u' (head_alone (Var v')) → v' ≡ v
  same_local u u' v v' e f = the_number v' v (eta_source u' (head_alone (Var v')) v (subst (λ o. occurs v o ≡ true) f (eta_there u (head_alone (Var v)) v e (own_number v))))

  place : (p q p' q' : Place) → OwnPlace z p q → OwnPlace z p' q' → p.1 ≡ p'.1 → eta q.1 (head_alone (Var q.2)) ≡ eta q'.1 (head_alone (Var q'.2)) → AlikePlace p q p' q'
  place p q p' q' o o' s e = record {
    type = s;
    local = ⊎_elim (λ b. inl b) (λ b. inr (local b)) (cases_of (blank p.1));
  }
    where
      number : blank p.1 ≡ false → q'.2 ≡ q.2
      number b = same_local q.1 q'.1 q.2 q'.2 (own_shown p q o b) e

      local : blank p.1 ≡ false → (p.2 ≡ p'.2) × (q.1 ≡ q'.1)
      local b = (
        o.local ∙ sym (number b) ∙ sym o'.local,
        one_type (sym (own_type p q o b) ∙ ap (λ v. z (Var v)) (sym (number b)) ∙ own_type p' q' o' (ap blank (sym s) ∙ b)),
      )

  alike : (ps qs ps' qs' : List Place) (m m' : ℕ) → OwnPlaces z ps qs → OwnPlaces z ps' qs' → SameTypes ps ps' → on qs (head_alone (Meta m)) ≡ on qs' (head_alone (Meta m')) → (m ≡ m') × Alike ps qs ps' qs'
  alike [] [] [] [] m m' o o' s e = (number_of e, alike_none)
  alike [] [] [] (q' ∷ qs') m m' o o' s e = absurd o'
  alike [] [] (p' ∷ ps') qs' m m' o o' s e = absurd s
  alike [] (q ∷ qs) ps' qs' m m' o o' s e = absurd o
  alike (p ∷ ps) [] ps' qs' m m' o o' s e = absurd o
  alike (p ∷ ps) (q ∷ qs) [] qs' m m' o o' s e = absurd s
  alike (p ∷ ps) (q ∷ qs) (p' ∷ ps') [] m m' o o' s e = absurd o'
  alike (p ∷ ps) (q ∷ qs) (p' ∷ ps') (q' ∷ qs') m m' o o' s e =
      let (k, h) = alike ps qs ps' qs' m m' o.1 o'.1 s.2 (function_of e) in (k, alike_more (place p q p' q' o.0 o'.0 s.1 (argument_of e)) h)

pub alike_local : {ps qs ps' qs' : List Place} → Alike ps qs ps' qs' → (i : ℕ) → local_at ps i ≡ local_at ps' i
alike_local alike_none i = refl
alike_local (alike_more {p = p} {p' = p'} a h) zero = ⊎_elim
    (λ b. hidden (blank p.1) (blank p'.1) b (ap blank (sym a.type) ∙ b))
    (λ k. ap (λ v. if blank p.1 then None else Some v) k.0 ∙ ap (λ u. if blank u then None else Some p'.2) a.type) a.local
  where
    hidden : (b c : Bool) → b ≡ true → c ≡ true → (if b then None else Some p.2) ≡ (if c then None else Some p'.2)
    hidden true true e f = refl
    hidden true false e f = absurd (cc)
    hidden false c e f = absurd (cc)
alike_local (alike_more a h) (suc i) = alike_local h i

pub alike_lacks : {ps qs ps' qs' : List Place} → Alike ps qs ps' qs' → (x : PlainObject) → LacksMisfits ps qs x → LacksMisfits ps' qs' x
alike_lacks alike_none x l = tt
alike_lacks (alike_more {p = p} {q = q} {p' = p'} {q' = q'} a h) x l = (
  ⊎_elim
      (λ b. inr (inl (ap blank (sym a.type) ∙ b)))
      (λ k. ⊎_elim (λ e. inl (sym a.type ∙ e ∙ k.1)) (λ c. inr (⊎_elim (λ b. inl (ap blank (sym a.type) ∙ b)) (λ o. inr (subst (λ v. occurs v x ≡ false) k.0 o)) c)) l.0) a.local,
  alike_lacks h x l.1,
)

pub turned : {ps qs ps' qs' : List Place} → Alike ps qs ps' qs' → Alike ps' qs' ps qs
turned alike_none = alike_none
turned (alike_more {p = p} a h) = alike_more (record { type = sym a.type; local = ⊎_elim (λ b. inl (ap blank (sym a.type) ∙ b)) (λ k. inr (sym k.0, sym k.1)) a.local }) (turned h)

-- What stands as an object has a family or a monad.
pub stands_final : (z : Assignment) (n : PlainNeutral) (t : SimpleType) → SimplyTyped z (atomic n) t → IsFinal t
stands_final z n t p = ⊎_elim (λ h. inl h) (λ h. inr (h.1, h.3)) p.0

-- Two readings of a neutral whose result is a family or a monad are of one metavariable, with the same places.
pub one_reading_on : (z : Assignment) (r : PlainNeutral) (m m' : ℕ) (ps qs ps' qs' : List Place) (t : SimpleType) → IsFinal t → OnLocals z r m ps qs t → OnLocals z r m' ps' qs' t
    → (m ≡ m') × SameTypes ps ps' × Alike ps qs ps' qs'
one_reading_on z r m m' ps qs ps' qs' t f o o' = let (s, k) = same_types ps ps' t t f f (one_type (sym o.type ∙ ap (λ j. z (Meta j)) head ∙ o'.type)) in
    let (e, a) = alike z ps qs ps' qs' m m' o.places o'.places s (sym o.neutral ∙ o'.neutral) in (e, s, a)
  where
    same_meta : {i j : ℕ} → Meta i ≡ Meta j → i ≡ j
    same_meta e = cc

    head : m ≡ m'
    head = same_meta (sym (head_on qs (head_alone (Meta m))) ∙ ap head_of (sym o.neutral ∙ o'.neutral) ∙ head_on qs' (head_alone (Meta m')))
