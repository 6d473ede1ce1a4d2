-- The object made of new metavariables is typed.
use Rattle.std.specs.Prelude.{ℕ, zero, suc, ◌+◌, ◌≡◌, Bool, true, false, if◌then◌else◌, List, [], ◌∷◌, length, map, Some, refl}
use Rattle.std.proofs.Common.{ap, sym, ◌∙◌, arith}
use Rattle.std.specs.List.{slice_get}
use Rattle.clf_syntax.specs.declared.tree.Head.TheVariants.{Var, Meta}
use Rattle.clf_syntax.specs.Tree.{PlainNeutral, head_alone, app, head_of}
use Rattle.clf_syntax.specs.TypeTree.{SimpleType, base, arrow, simple_with, simple_top, lax}
use Rattle.clf_syntax.specs.Simple.{Assignment, extended}
use Rattle.hered_subst.proofs.SimpleTyping.{Typed, TypedNeutral, typed_lam, typed_pair, typed_unit, typed_atomic, typed_metavariable, typed_bare, typed_app, of_typed}
use Rattle.eta_laws.specs.Eta.{eta}
use Rattle.eta_laws.proofs.EtaTyped.{eta_typed}
use Rattle.metavars.specs.Fresh.{Local, Scope, binder, functions, applied_from, new_types, fresh_object}
use Rattle.metavars.specs.Laws.{FreshIsTyped}
use Rattle.clf_syntax.proofs.Lists.{get-front}
use Rattle.metavars.proofs.Gets.{get-behind}

-- the variables of the scope, from a number on, have their types
abbrev Holds : Assignment → ℕ → Scope → Type 0
Holds g i s = (j : ℕ) (u : SimpleType) → slice_get (map (λ l. l.type) s) j ≡ Some u → g (Var (i + j)) ≡ Some u

-- the new metavariables, from a number on, have theirs
abbrev Given : Assignment → ℕ → List SimpleType → Type 0
Given g k ts = (j : ℕ) (u : SimpleType) → slice_get ts j ≡ Some u → g (Meta (k + j)) ≡ Some u

holds_later : (g : Assignment) (i : ℕ) (l : Local) (s : Scope) → Holds g i (l ∷ s) → Holds g (i + 1) s
holds_later g i l s h j u e = ap (λ n. g (Var n)) (moved i j) ∙ h (suc j) u e
  where
    moved : (i j : ℕ) → i + 1 + j ≡ i + suc j
    moved i j = omega arith

plain_sum : (n : ℕ) → n + 0 ≡ n
plain_sum n = omega arith

applied : (g : Assignment) (i : ℕ) (s : Scope) (r : PlainNeutral) (t : SimpleType) → Holds g i s → TypedNeutral true g r (functions s t) → TypedNeutral true g (applied_from i s r) t
applied g i [] r t h p = p
applied g i (l ∷ s) r t h p = by l.applied (applied g (i + 1) s r (if l.applied then arrow l.mode l.type t else t) (holds_later g i l s h) p)
  where
    by : (b : Bool) → TypedNeutral true g (applied_from (i + 1) s r) (if b then arrow l.mode l.type t else t)
        → TypedNeutral true g (if b then app l.mode (applied_from (i + 1) s r) (eta l.type (head_alone (Var i))) else applied_from (i + 1) s r) t
    by true q = typed_app q (eta_typed true g l.type (typed_bare (ap (λ n. g (Var n)) (sym (plain_sum i)) ∙ h 0 l.type refl)))
    by false q = q

head-applied : (i : ℕ) (s : Scope) (r : PlainNeutral) → head_of (applied_from i s r) ≡ head_of r
head-applied i [] r = refl
head-applied i (l ∷ s) r = by l.applied (head-applied (i + 1) s r)
  where
    by : (b : Bool) → head_of (applied_from (i + 1) s r) ≡ head_of r → head_of (if b then app l.mode (applied_from (i + 1) s r) (eta l.type (head_alone (Var i))) else applied_from (i + 1) s r) ≡ head_of r
    by true e = e
    by false e = e

meta_there : (g : Assignment) (k : ℕ) (s : Scope) (t : SimpleType) → Holds g 0 s → Given g k (functions s t ∷ []) → TypedNeutral true g (applied_from 0 s (head_alone (Meta k))) t
meta_there g k s t h n = applied g 0 s (head_alone (Meta k)) t h (typed_bare (ap (λ j. g (Meta j)) (sym (plain_sum k)) ∙ n 0 (functions s t) refl))

bound : (g : Assignment) (l : Local) (s : Scope) → Holds g 0 s → Holds (extended l.type g) 0 (l ∷ s)
bound g l s h zero u e = ap (λ n. extended l.type g (Var n)) (plain_sum 0) ∙ e
bound g l s h (suc j) u e = ap (λ n. extended l.type g (Var n)) (moved j) ∙ h j u e
  where
    moved : (j : ℕ) → 0 + suc j ≡ suc (0 + j)
    moved j = omega arith

fresh : (g : Assignment) (k : ℕ) (s : Scope) (t : SimpleType) → Given g k (new_types s t) → Holds g 0 s → Typed true g (fresh_object k s t) t
fresh g k s (base f) n h = typed_atomic (meta_there g k s (base f) h n)
fresh g k s (arrow m d c) n h = typed_lam (fresh (extended d g) k (binder m d ∷ s) c n (bound g (binder m d) s h))
fresh g k s (simple_with c d) n h = typed_pair
    (fresh g k s c (λ j u e. n j u (get-front (new_types s c) (new_types s d) j u e)) h)
    (fresh g (k + length (new_types s c)) s d (λ j u e. ap (λ i. g (Meta i)) (moved k (length (new_types s c)) j) ∙ n (length (new_types s c) + j) u (get-behind (new_types s c) (new_types s d) j ∙ e)) h)
  where
    moved : (k i j : ℕ) → k + i + j ≡ k + (i + j)
    moved k i j = omega arith
fresh g k s simple_top n h = typed_unit
fresh g k s (lax ts) n h = typed_metavariable refl (meta_there g k s (lax ts) h n) (head-applied 0 s (head_alone (Meta k)))

none_more : (j : ℕ) → 0 + j ≡ j
none_more j = omega arith

pub fresh_is_typed : FreshIsTyped
fresh_is_typed g k s t n h = of_typed (fresh g k s t n (λ j u e. ap (λ i. g (Var i)) (none_more j) ∙ h j u e))
