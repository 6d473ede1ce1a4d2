-- What a neutral is read as, by its head.
use Rattle.std.specs.Prelude.{ℕ, ◌≡◌, ◌⊎◌, List, [], ◌∷◌, map, Option, Some, None, refl}
use Rattle.std.specs.List.{slice_get}
use Rattle.std.proofs.Common.{ap, sym, ◌∙◌, subst, ⊎_elim}
use Rattle.clf_syntax.specs.declared.tree.Head.{Head}
use Rattle.clf_syntax.specs.declared.tree.Head.TheVariants.{Const, Var, Meta}
use Rattle.clf_syntax.specs.declared.tree.Elim.{Elim}
use Rattle.clf_syntax.specs.declared.tree.Neutral.{Neutral}
use Rattle.clf_syntax.specs.declared.tree.Simple.{Simple}
use Rattle.clf_syntax.specs.declared.tree.SimpleEntry.{SimpleEntry}
use Rattle.clf_syntax.specs.Tree.{head_alone, head_of, spine_on}
use Rattle.clf_syntax.specs.TypeTree.{SimpleType}
use Rattle.clf_syntax.specs.Plain.{plain_neutral, plain_elim, plain-neutral}
use Rattle.clf_syntax.specs.PlainSimple.{plain_simple}
use Rattle.clf_syntax.specs.Simple.{Assignment, SimplyTypedNeutral}
use Rattle.pattern_laws.specs.Instantiations.{Types, closed}
use Rattle.pattern_laws.specs.Equations.{Locals, scoped}
use Rattle.pattern_laws.specs.Patterns.{Place as PlainPlace, on, OnLocals}
use Rattle.pattern_laws.proofs.Spines.{head_on}
use Rattle.celf_constraints.specs.declared.places.Places.{Places}
use Rattle.celf_constraints.specs.Equated.{plain_locals, assigned_in}
use Rattle.celf_constraints.specs.Reading.{HasTypes, Scopes, ReadsLocals}
use Rattle.celf_constraints.proofs.Candidates.{neutral_head}
use Rattle.celf_constraints.proofs.Meeting.{scoped_local}

-- A neutral that is a metavariable on locals has it as its head.
head_there : (z : Assignment) (n : Neutral) (t : SimpleType) (m : ℕ) (ps qs : List PlainPlace) → OnLocals z (plain_neutral n) m ps qs t → n.head ≡ Meta m
head_there z n t m ps qs o = sym (neutral_head n) ∙ ap head_of o.neutral ∙ head_on qs (head_alone (Meta m))

const_meta : {c m : ℕ} → Const c ≡ Meta m → ⊥
const_meta e = cc

var_meta : {i m : ℕ} → Var i ≡ Meta m → ⊥
var_meta e = cc

number : {k m : ℕ} → Meta k ≡ Meta m → k ≡ m
number e = cc

nothing : {X : Type 0} {x : X} → None ≡ Some x → ⊥
nothing e = cc

-- Under a constant or a variable nothing is read.
pub other_unread : (z : Assignment) (n : Neutral) (t : SimpleType) → ((c : ℕ) × (n.head ≡ Const c)) ⊎ ((i : ℕ) × (n.head ≡ Var i)) → (m : ℕ) (ps qs : List PlainPlace) → OnLocals z (plain_neutral n) m ps qs t → ⊥
other_unread z n t h m ps qs o = ⊎_elim (λ c. const_meta (sym c.1 ∙ head_there z n t m ps qs o)) (λ i. var_meta (sym i.1 ∙ head_there z n t m ps qs o)) h

-- A metavariable without a type
pub unknown_unread : (z : Assignment) (metas : List Simple) (vs : List SimpleType) → HasTypes z metas vs → (n : Neutral) (k : ℕ) → n.head ≡ Meta k → None ≡ slice_get (map plain_simple metas) k
    → (t : SimpleType) (m : ℕ) (ps qs : List PlainPlace) → OnLocals z (plain_neutral n) m ps qs t → ⊥
unknown_unread z metas vs h n k e f t m ps qs o =
    let same : k ≡ m = number (sym e ∙ head_there z n t m ps qs o) in
    nothing (f ∙ ap (slice_get (map plain_simple metas)) same ∙ sym (h.metavariables m) ∙ o.type)

-- The spine of a neutral under its head
under_head : (n : Neutral) (es : List Elim) (m : ℕ) → n.head ≡ Meta m → es ≡ n.spine → plain_neutral n ≡ spine_on (map plain_elim es) (head_alone (Meta m))
under_head n es m e f = plain-neutral n ∙ ap (λ h. spine_on (map plain_elim n.spine) (head_alone h)) e ∙ ap (λ xs. spine_on (map plain_elim xs) (head_alone (Meta m))) (sym f)

pub read_so : (metas : List Simple) (vs : List SimpleType) (n : Neutral) (es : List Elim) (m : ℕ) (ty : SimpleType) → n.head ≡ Meta m → es ≡ n.spine → Some ty ≡ slice_get (map plain_simple metas) m → (found : Option Places)
    → ((z : Assignment) (t : SimpleType) → Scopes z vs → z (Meta m) ≡ Some ty → SimplyTypedNeutral z (spine_on (map plain_elim es) (head_alone (Meta m))) t → ReadsLocals z (spine_on (map plain_elim es) (head_alone (Meta m))) t found)
    → (z : Assignment) (t : SimpleType) → HasTypes z metas vs → SimplyTypedNeutral z (plain_neutral n) t → ReadsLocals z (plain_neutral n) t found
read_so metas vs n es m ty e i k found f z t h q =
    let same = under_head n es m e i in
    subst (λ r. ReadsLocals z r t found) (sym same) (f z t h.variables (h.metavariables m ∙ sym k) (subst (λ r. SimplyTypedNeutral z r t) same q))

-- ---- the locals of an equation

metas_at : (constants metas : Types) (ls : Locals) (m : ℕ) → scoped ls (closed constants metas) (Meta m) ≡ metas m
metas_at constants metas [] m = refl
metas_at constants metas (l ∷ ls) m = metas_at constants metas ls m

pub types_there : (constants : Types) (metas : List Simple) (locals : List SimpleEntry) (vs : List SimpleType) → vs ≡ map (λ l. l.1) (plain_locals locals) → HasTypes (assigned_in constants metas locals) metas vs
types_there constants metas locals vs e = record {
  metavariables = metas_at constants (slice_get (map plain_simple metas)) (plain_locals locals);
  variables = subst (Scopes (assigned_in constants metas locals)) (sym e) (scoped_local constants (slice_get (map plain_simple metas)) (plain_locals locals));
}
