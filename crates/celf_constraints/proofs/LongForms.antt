-- Which local an object is the eta-long form of.
use Rattle.std.specs.Prelude.{ℕ, ◌≡◌, Bool, true, false, List, Some, None, Result, Ok, Err, refl}
use Rattle.std.specs.List.{slice_get}
use Rattle.std.proofs.Common.{ap, sym, ◌∙◌, subst}
use Rattle.clf_syntax.specs.declared.tree.Head.TheVariants.{Var}
use Rattle.clf_syntax.specs.declared.tree.Obj.{Obj}
use Rattle.clf_syntax.specs.declared.fault.Or.{Or}
use Rattle.clf_syntax.specs.declared.fault.Or.TheVariants.{Fault, NoMemory}
use Rattle.clf_syntax.specs.declared.fault.TooFar.{TooFar}
use Rattle.clf_syntax.specs.Tree.{PlainObject, PlainNeutral, head_alone}
use Rattle.clf_syntax.specs.TypeTree.{SimpleType}
use Rattle.clf_syntax.specs.Plain.{plain_obj}
use Rattle.clf_syntax.specs.Written.{Writes, fits}
use Rattle.eta_laws.specs.Eta.{eta, expansion}
use Rattle.eta_laws.proofs.Expansions.{expansion_laws}
use Rattle.pattern_laws.specs.Patterns.{blank}
use Rattle.celf_constraints.specs.Candidate.{candidate}
use Rattle.celf_constraints.specs.Reading.{FormTooFar}
use Rattle.celf_constraints.specs.Read.{IsLocal}
use Rattle.celf_constraints.proofs.Candidates.{blank_candidate, eta_candidate}

-- the form that is written for a variable
pub written_long : (t : SimpleType) (n : PlainNeutral) (v : ℕ) (r : Result Obj (Or TooFar)) → n ≡ head_alone (Var v) → Writes plain_obj fits (expansion t n) r → Writes plain_obj fits (eta t (head_alone (Var v))) r
written_long t n v r e w = subst (λ o. Writes plain_obj fits o r) (ap (expansion t) e ∙ expansion_laws.long t (head_alone (Var v)) refl) w

-- where it cannot be written
pub form_too_far : (vs : List SimpleType) (t : SimpleType) (v : ℕ) (r : Result Obj (Or TooFar)) (e : Or TooFar) → r ≡ Err e → Writes plain_obj fits (eta t (head_alone (Var v))) r → slice_get vs v ≡ Some t → FormTooFar vs e
form_too_far vs t v (Ok o) e q w k = absurd (cc)
form_too_far vs t v (Err (Fault f)) (Fault g) q w k = (v, t, k, w)
form_too_far vs t v (Err (Fault f)) NoMemory q w k = tt
form_too_far vs t v (Err NoMemory) (Fault g) q w k = absurd (cc)
form_too_far vs t v (Err NoMemory) NoMemory q w k = tt

not_false : (b : Bool) → (b ≡ true → ⊥) → b ≡ false
not_false true h = absurd (h refl)
not_false false h = refl

nothing : {v : ℕ} → None ≡ Some v → ⊥
nothing e = cc

number : {v w : ℕ} → Some v ≡ Some w → v ≡ w
number e = cc

the_type : {t u : SimpleType} → Some t ≡ Some u → t ≡ u
the_type e = cc

no_type : {u : SimpleType} → None ≡ Some u → ⊥
no_type e = cc

-- the candidate of an object that is the form of a local
pub local_candidate : (vs : List SimpleType) (o : PlainObject) (u : SimpleType) (y : ℕ) → IsLocal vs o u y → candidate o ≡ Some y
local_candidate vs o u y l = ap candidate l.form ∙ eta_candidate u (head_alone (Var y)) y l.shown refl

pub known_form : (vs : List SimpleType) (o : PlainObject) (u : SimpleType) (y : ℕ) → candidate o ≡ Some y → slice_get vs y ≡ Some u → o ≡ eta u (head_alone (Var y)) → IsLocal vs o u y
known_form vs o u y c k f = record {
  known = k;
  shown = not_false (blank u) (λ b. nothing (sym (blank_candidate u (head_alone (Var y)) b) ∙ ap candidate (sym f) ∙ c));
  form = f;
}

pub other_form : (vs : List SimpleType) (o : PlainObject) (u : SimpleType) (y : ℕ) → candidate o ≡ Some y → slice_get vs y ≡ Some u → (o ≡ eta u (head_alone (Var y)) → ⊥) → (w : SimpleType) (z : ℕ) → IsLocal vs o w z → ⊥
other_form vs o u y c k f w z l =
    let e : z ≡ y = number (sym (local_candidate vs o w z l) ∙ c) in
    let t : w ≡ u = the_type (sym l.known ∙ ap (slice_get vs) e ∙ k) in
    f (l.form ∙ ap (λ x. eta x (head_alone (Var z))) t ∙ ap (λ x. eta u (head_alone (Var x))) e)

pub no_candidate : (vs : List SimpleType) (o : PlainObject) → candidate o ≡ None → (w : SimpleType) (z : ℕ) → IsLocal vs o w z → ⊥
no_candidate vs o c w z l = nothing (sym c ∙ local_candidate vs o w z l)

pub no_known : (vs : List SimpleType) (o : PlainObject) (y : ℕ) → candidate o ≡ Some y → slice_get vs y ≡ None → (w : SimpleType) (z : ℕ) → IsLocal vs o w z → ⊥
no_known vs o y c k w z l =
    let e : z ≡ y = number (sym (local_candidate vs o w z l) ∙ c) in
    no_type (sym k ∙ ap (slice_get vs) (sym e) ∙ l.known)

-- Two locals of one object are one.
pub one_local : (vs : List SimpleType) (o : PlainObject) (u w : SimpleType) (y z : ℕ) → IsLocal vs o u y → IsLocal vs o w z → (y ≡ z) × (u ≡ w)
one_local vs o u w y z k l =
    let e : y ≡ z = number (sym (local_candidate vs o u y k) ∙ local_candidate vs o w z l) in
    (e, the_type (sym k.known ∙ ap (slice_get vs) e ∙ l.known))
