-- What is decided of trees in memory, whose spines, steps and tuples are lists.
use Rattle.std.proofs.Common.{◌≡◌, ℕ, suc, ◌+◌, ◌<◌, Bool, true, false, ◌&&◌, List, [], ◌∷◌, length, map, drop, get_or, Option, Some, None, refl, sym, ap, subst, ◌∙◌, add-one}
use Rattle.std.proofs.Math.Seq.{drop-cons}
use Rattle.clf_syntax.specs.declared.tree.Mode.{Mode}
use Rattle.clf_syntax.specs.declared.tree.Neutral.{Neutral}
use Rattle.clf_syntax.specs.declared.tree.SimpleEntry.{SimpleEntry}
use Rattle.clf_syntax.specs.declared.tree.TupleEntry.{TupleEntry}
use Rattle.clf_syntax.specs.PlainSimple.{plain_simple_entry, simple_telescope_of, plain-simple-entry}
use Rattle.clf_syntax.specs.declared.tree.Expr.{Expr, out-Expr}
use Rattle.clf_syntax.specs.Tree.{PlainNeutral, head_alone, PlainElimination, arg, first, second, spine_on, steps_on, PlainTuple, done, tuple_of, head_of}
use Rattle.clf_syntax.specs.TypeTree.{SimpleType, SimpleTelescope, simple_binding}
use Rattle.clf_syntax.specs.Plain.{plain_neutral, plain_elim, plain_expr, plain_step, plain_entry, plain-neutral, plain-expr}
use Rattle.clf_syntax.specs.Modes.{same_mode}
use Rattle.clf_simple.specs.Decision.{HeadTypes, heads_in, then_type, then_scope, in_scope, type_of, elimination_type, spine_type, step_scope, steps_scope, expression_typed, tuple_typed, same_telescope, has_modes}

then_some : (x : Option SimpleType) → then_type x (λ t. Some t) ≡ x
then_some (Some t) = refl
then_some None = refl

then_then : (x : Option SimpleType) (f h : SimpleType → Option SimpleType) → then_type (then_type x f) h ≡ then_type x (λ t. then_type (f t) h)
then_then (Some t) f h = refl
then_then None f h = refl

module _ (k : HeadTypes) (g : List SimpleType) where
  spine_typed : (es : List PlainElimination) (r : PlainNeutral) → type_of k g (spine_on es r) ≡ then_type (type_of k g r) (spine_type k g es)
  spine_typed [] r = sym (then_some (type_of k g r))
  spine_typed (arg m n ∷ es) r = spine_typed es _ ∙ then_then (type_of k g r) (elimination_type k g (arg m n)) (spine_type k g es)
  spine_typed (first ∷ es) r = spine_typed es _ ∙ then_then (type_of k g r) (elimination_type k g first) (spine_type k g es)
  spine_typed (second ∷ es) r = spine_typed es _ ∙ then_then (type_of k g r) (elimination_type k g second) (spine_type k g es)

  pub neutral_typed : (n : Neutral) → type_of k g (plain_neutral n) ≡ then_type (heads_in k g n.head) (spine_type k g (map plain_elim n.spine))
  neutral_typed n = ap (type_of k g) (plain-neutral n) ∙ spine_typed (map plain_elim n.spine) (head_alone n.head)

pub head_spine : (es : List PlainElimination) (r : PlainNeutral) → head_of (spine_on es r) ≡ head_of r
head_spine [] r = refl
head_spine (arg m n ∷ es) r = head_spine es _
head_spine (first ∷ es) r = head_spine es _
head_spine (second ∷ es) r = head_spine es _

pub neutral_head : (n : Neutral) → head_of (plain_neutral n) ≡ n.head
neutral_head n = ap head_of (plain-neutral n) ∙ head_spine (map plain_elim n.spine) (head_alone n.head)

scope_then : (x : Option (List SimpleType)) (f : List SimpleType → Option (List SimpleType)) (h : List SimpleType → Bool) → in_scope (then_scope x f) h ≡ in_scope x (λ l. in_scope (f l) h)
scope_then (Some l) f h = refl
scope_then None f h = refl

in_same : (x : Option (List SimpleType)) {f h : List SimpleType → Bool} → ((l : List SimpleType) → f l ≡ h l) → in_scope x f ≡ in_scope x h
in_same (Some l) e = e l
in_same None e = refl

steps_typed : (k : HeadTypes) (g : List SimpleType) (ss : List (List Mode × PlainNeutral)) (t : PlainTuple) (s : SimpleTelescope) → expression_typed k g (steps_on ss (done t)) s ≡ in_scope (steps_scope k g ss) (λ l. tuple_typed k l t s)
steps_typed k g [] t s = refl
steps_typed k g (x ∷ ss) t s = in_same (step_scope k g x) (λ l. steps_typed k l ss t s) ∙ sym (scope_then (step_scope k g x) (λ l. steps_scope k l ss) (λ l. tuple_typed k l t s))

pub expr_typed : (k : HeadTypes) (g : List SimpleType) (e : Expr) (s : SimpleTelescope) → expression_typed k g (plain_expr e) s ≡ in_scope (steps_scope k g (map plain_step (out-Expr e).steps)) (λ l. tuple_typed k l (tuple_of (map plain_entry (out-Expr e).result)) s)
expr_typed k g e s = ap (λ x. expression_typed k g x s) (plain-expr e) ∙ steps_typed k g (map plain_step (out-Expr e).steps) (tuple_of (map plain_entry (out-Expr e).result)) s

-- the rest of a list from a place on
pub from_place : {X Y : Type 0} (f : X → Y) (xs : List X) (i : ℕ) (x : X) → i < length xs → x ≡ get_or xs i x → map f (drop i xs) ≡ f x ∷ map f (drop (i + 1) xs)
from_place f xs i x l e = rw add-one (ap (map f) (drop-cons xs i x l ∙ ap (λ y. y ∷ drop (suc i) xs) (sym e)))

pub from_mode : (ms : List Mode) (i : ℕ) (m : Mode) → i < length ms → m ≡ get_or ms i m → drop i ms ≡ m ∷ drop (i + 1) ms
from_mode ms i m l e = rw add-one (drop-cons ms i m l ∙ ap (λ y. y ∷ drop (suc i) ms) (sym e))

pub from_entry : (es : List SimpleEntry) (i : ℕ) (e : SimpleEntry) → i < length es → e ≡ get_or es i e → simple_telescope_of (map plain_simple_entry (drop i es)) ≡ simple_binding e.mode (plain_simple_entry e).1 (simple_telescope_of (map plain_simple_entry (drop (i + 1) es)))
from_entry es i e l q = ap simple_telescope_of (from_place plain_simple_entry es i e l q) ∙ ap (λ (p : Mode × SimpleType). simple_binding p.0 (plain_simple_entry e).1 (simple_telescope_of (map plain_simple_entry (drop (i + 1) es)))) (plain-simple-entry e)

pub mode_step : (es : List SimpleEntry) (ms : List Mode) (i : ℕ) (e : SimpleEntry) (d : Mode) {b : Bool} → i < length es → e ≡ get_or es i e → length es ≡ length ms → b ≡ same_mode (get_or ms i d) e.mode
    → has_modes (simple_telescope_of (map plain_simple_entry (drop i es))) (drop i ms) ≡ (b && has_modes (simple_telescope_of (map plain_simple_entry (drop (i + 1) es))) (drop (i + 1) ms))
mode_step es ms i e d {b} l q n h = ap (λ t. has_modes t (drop i ms)) (from_entry es i e l q)
    ∙ ap (has_modes (simple_binding e.mode (plain_simple_entry e).1 (simple_telescope_of (map plain_simple_entry (drop (i + 1) es))))) (here)
    ∙ ap (λ x. x && has_modes (simple_telescope_of (map plain_simple_entry (drop (i + 1) es))) (drop (i + 1) ms)) (sym h)
  where
    here : drop i ms ≡ get_or ms i d ∷ drop (i + 1) ms
    here = rw add-one (drop-cons ms i d (subst (λ k. i < k) n l))

-- ---- lists of other lengths
never : (b : Bool) → (b && false) ≡ false
never true = refl
never false = refl

not_then : (b c : Bool) → c ≡ false → (b && c) ≡ false
not_then b c e = ap (λ x. b && x) e ∙ never b

pub entries_differ : (xs ys : List SimpleEntry) → (length xs ≡ length ys → ⊥) → same_telescope (simple_telescope_of (map plain_simple_entry xs)) (simple_telescope_of (map plain_simple_entry ys)) ≡ false
entries_differ [] [] n = absurd (n refl)
entries_differ [] (y ∷ ys) n = refl
entries_differ (x ∷ xs) [] n = refl
entries_differ (x ∷ xs) (y ∷ ys) n = not_then _ _ (entries_differ xs ys (λ e. n (ap suc e)))

pub modes_differ : (xs : List SimpleEntry) (ms : List Mode) → (length xs ≡ length ms → ⊥) → has_modes (simple_telescope_of (map plain_simple_entry xs)) ms ≡ false
modes_differ [] [] n = absurd (n refl)
modes_differ [] (m ∷ ms) n = refl
modes_differ (x ∷ xs) [] n = refl
modes_differ (x ∷ xs) (m ∷ ms) n = not_then _ _ (modes_differ xs ms (λ e. n (ap suc e)))

pub tuple_differs : (k : HeadTypes) (g : List SimpleType) (xs : List TupleEntry) (ys : List SimpleEntry) → (length xs ≡ length ys → ⊥) → tuple_typed k g (tuple_of (map plain_entry xs)) (simple_telescope_of (map plain_simple_entry ys)) ≡ false
tuple_differs k g [] [] n = absurd (n refl)
tuple_differs k g [] (y ∷ ys) n = refl
tuple_differs k g (x ∷ xs) [] n = refl
tuple_differs k g (x ∷ xs) (y ∷ ys) n = not_then _ _ (not_then _ _ (tuple_differs k g xs ys (λ e. n (ap suc e))))
