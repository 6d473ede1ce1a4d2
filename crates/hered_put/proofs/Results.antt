-- The laws of the function, put together.
use Rattle.std.specs.Prelude.{ℕ, ◌+◌, ◌-◌, ◌≡◌, ◌<◌, ◌≤◌, length, refl}
use Rattle.std.proofs.Common.{ap, sym, subst, ◌∙◌, arith, inl, inr, ⊎_elim, true}
use Rattle.clf_syntax.specs.declared.tree.Head.TheVariants.{Const, Var, Meta}
use Rattle.clf_syntax.specs.Tree.{PlainObject}
use Rattle.clf_syntax.specs.TypeTree.{SimpleType}
use Rattle.clf_syntax.specs.Simple.{Assignment, extended_by, simple_modes, SimplyTyped, SimplyTypedExpression, SimplyFormed, SimplyFormedTelescope, SimplyFormedKind}
use Rattle.hered_subst.specs.Substitution.{single, Flattened, SubstitutedType, SubstitutedTelescope, SubstitutedKind}
use Rattle.hered_subst.specs.Laws.{inserted}
use Rattle.hered_subst.proofs.Single.{single_low, single_at, single_high}
use Rattle.hered_subst.proofs.SimpleTyping.{Typed, TypedExpression, rank, ranks, to_typed, to_expression, of_typed, of_expression}
use Rattle.hered_subst.proofs.Total.{Suits, RankedEnvironment, the_type, at_most}
use Rattle.hered_subst.proofs.TypedEnvironments.{cut3, inserted_low, inserted_at, inserted_high, put_is_typed}
use Rattle.hered_subst.proofs.TypedResults.{result_is_typed}
use Rattle.hered_put.specs.Function.{Answer, made, untyped, too_far, written, nested, run, run_expression, run_type, run_telescope, run_kind, flattened}
use Rattle.hered_put.specs.Passes.{PassesType, PassesTelescope, PassesKind, PassesFlattened}
use Rattle.hered_put.specs.Laws.{Meets, Fine, FunctionIsSound, FunctionIsTyped, FunctionKeepsForms, FlattenedIsSound, FlattenedIsTyped}
use Rattle.hered_put.proofs.Sound.{written-sound, nested-sound, run-meets, run_expression-meets, run_each-meets, run_type-meets, run_telescope-meets, run_kind-meets, flattened-meets, past_none}
use Rattle.hered_put.proofs.Typed.{written-writes, nested-fine, fine, fine_expression, flattened-fine, none, type-fine, telescope-fine, kind-fine}

pub function_is_sound : FunctionIsSound
function_is_sound k s = (
  (λ o. run-meets (nested k) (nested-sound k) written written-sound s o),
  (λ e. run_expression-meets (nested k) (nested-sound k) written written-sound s e),
  (λ ns. run_each-meets (nested k) (nested-sound k) written written-sound s ns),
  (λ a. run_type-meets (nested k) (nested-sound k) written written-sound s a),
  (λ t. run_telescope-meets (nested k) (nested-sound k) written written-sound s t),
  (λ l. run_kind-meets (nested k) (nested-sound k) written written-sound s l),
)

-- what is made is such as follows
weaker : {X : Type 0} (a : Answer X) (P Q : X → Type 0) → Fine a P → ((x : X) → P x → Q x) → Fine a Q
weaker (made x) P Q p h = h x p
weaker untyped P Q p h = p
weaker too_far P Q p h = tt

-- what is made is such, and is what the rules relate
both : {X : Type 0} (a : Answer X) (P R Q : X → Type 0) (F : Type 0) → Fine a P → Meets a R F → ((x : X) → R x → Q x) → Fine a Q
both (made x) P R Q F p m h = h x m
both untyped P R Q F p m h = p
both too_far P R Q F p m h = tt

-- the object that is put has the rank of its type
pub ranked_single : (z : Assignment) (k : ℕ) (n : PlainObject) (u : SimpleType) → Typed true z n u → RankedEnvironment true (rank u) (inserted k u z) z (single n k)
ranked_single z k n u p (Const c) t e = inl (Const c, refl, e, refl)
ranked_single z k n u p (Meta m) t e = inl (Meta m, refl, e, refl)
ranked_single z k n u p (Var i) t e = ⊎_elim (λ h. inl (Var i, single_low n k i h, sym (inserted_low k u z i h) ∙ e, refl))
    (λ x. ⊎_elim
    (λ q. here q (the_type (sym (ap (λ j. inserted k u z (Var j)) q ∙ inserted_at k u z) ∙ e)))
    (λ h. inl (Var (i - 1), ap (λ j. single n k (Var j)) (sym (before h)) ∙ single_high n k (i - 1) (below h), sym (inserted_high k u z (i - 1) (below h)) ∙ ap (λ j. inserted k u z (Var j)) (before h) ∙ e, refl))
    x)
    (cut3 k i)
  where
    before : k < i → i - 1 + 1 ≡ i
    before h = omega arith

    below : k < i → k ≤ i - 1
    below h = omega arith

    here : i ≡ k → u ≡ t → Suits true (rank u) z t (Var i) (single n k (Var i))
    here q same = inr (n, ap (λ j. single n k (Var j)) q ∙ single_at n k, subst (λ v. Typed true z n v) same p, at_most same)

pub function_is_typed : FunctionIsTyped
function_is_typed z k n u p = (
  (λ o t q. weaker (run (nested (rank u)) (single n k) o) (λ x. Typed true z x t) (λ x. SimplyTyped z x t)
      (fine (Unit {0}) true (rank u) (nested (rank u)) (nested-fine true (rank u)) written written-writes z (single n k) (to_typed true (inserted k u z) o t q) (ranked_single z k n u (to_typed true z n u p))) (λ x a. of_typed a)),
  (λ e s q. weaker (run_expression (nested (rank u)) (single n k) e) (λ x. TypedExpression true z x s) (λ x. SimplyTypedExpression z x s)
      (fine_expression (Unit {0}) true (rank u) (nested (rank u)) (nested-fine true (rank u)) written written-writes z (single n k) (to_expression true (inserted k u z) e s q) (ranked_single z k n u (to_typed true z n u p))) (λ x a. of_expression a)),
)

pub function_keeps_forms : FunctionKeepsForms
function_keeps_forms c z k n u p = (
  (λ a q. both (run_type (nested (rank u)) (single n k) a) (λ x. Unit {0}) (SubstitutedType (single n k) a) (λ x. SimplyFormed c z x) (PassesType (single n k) a)
      (type-fine (Unit {0}) true (rank u) (nested (rank u)) (nested-fine true (rank u)) written written-writes c (inserted k u z) z (single n k) (ranked_single z k n u (to_typed true z n u p)) a q)
      (run_type-meets (nested (rank u)) (nested-sound (rank u)) written written-sound (single n k) a)
      (λ x s. ((result_is_typed true c (inserted k u z) z (single n k) ((put_is_typed true z).0 k n u p)).type a x q s).0)),
  (λ t q. both (run_telescope (nested (rank u)) (single n k) t) (λ x. Unit {0}) (SubstitutedTelescope (single n k) t) (λ x. SimplyFormedTelescope c z x) (PassesTelescope (single n k) t)
      (telescope-fine (Unit {0}) true (rank u) (nested (rank u)) (nested-fine true (rank u)) written written-writes c (inserted k u z) z (single n k) (ranked_single z k n u (to_typed true z n u p)) t q)
      (run_telescope-meets (nested (rank u)) (nested-sound (rank u)) written written-sound (single n k) t)
      (λ x s. ((result_is_typed true c (inserted k u z) z (single n k) ((put_is_typed true z).0 k n u p)).telescope t x q s).0)),
  (λ l q. both (run_kind (nested (rank u)) (single n k) l) (λ x. Unit {0}) (SubstitutedKind (single n k) l) (λ x. SimplyFormedKind c z x) (PassesKind (single n k) l)
      (kind-fine (Unit {0}) true (rank u) (nested (rank u)) (nested-fine true (rank u)) written written-writes c (inserted k u z) z (single n k) (ranked_single z k n u (to_typed true z n u p)) l q)
      (run_kind-meets (nested (rank u)) (nested-sound (rank u)) written written-sound (single n k) l)
      (λ x s. (result_is_typed true c (inserted k u z) z (single n k) ((put_is_typed true z).0 k n u p)).kind l x q s)),
)

pub flattened_is_sound : FlattenedIsSound
flattened_is_sound k n g f = subst (λ y. Meets (flattened (nested k) 0 n g f) (Flattened n g y) (PassesFlattened 0 g f)) (past_none n f) (flattened-meets (nested k) (nested-sound k) 0 n g f)

pub flattened_is_typed : FlattenedIsTyped
flattened_is_typed z ts us g f p q = weaker (flattened (nested (ranks ts + 1)) 0 (length (simple_modes ts)) g f) (λ x. TypedExpression true z x us) (λ x. SimplyTypedExpression z x us)
    (flattened-fine (Unit {0}) true (ranks ts + 1) (nested (ranks ts + 1)) (nested-fine true (ranks ts + 1)) z z (to_expression true z g ts p) (omega arith) 0 (length (simple_modes ts)) refl
    (none (Unit {0}) true (ranks ts + 1) (nested (ranks ts + 1)) (nested-fine true (ranks ts + 1)) z) f us (to_expression true (extended_by ts z) f us q))
    (λ x a. of_expression a)
