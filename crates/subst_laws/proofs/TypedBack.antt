-- What is simply typed after a renaming was so before it.
use Rattle.clf_syntax.specs.Renaming.{Renumbering, lifted, ren, ren_expression, ren_head, ren_neutral, ren_tuple}
use Rattle.clf_syntax.specs.Simple.{Assignment, extended, extended_by}
use Rattle.clf_syntax.specs.Tree.{PlainExpression, PlainNeutral, PlainObject, PlainTuple, app, atomic, done, empty, entry, fst, head_alone, head_of, hole, lam, monadic, pair, snd, step, unit}
use Rattle.clf_syntax.specs.TypeTree.{SimpleTelescope, SimpleType}
use Rattle.clf_syntax.specs.declared.tree.Head.{Head}
use Rattle.clf_syntax.specs.declared.tree.Head.TheVariants.{Const, Meta, Var}
use Rattle.std.proofs.Common.{ap, subst, sym, ◌∙◌}
use Rattle.std.specs.Prelude.{Bool, length, ℕ, ◌≡◌}
use Rattle.hered_subst.proofs.Renamed.{head_renamed}
use Rattle.hered_subst.proofs.SimpleTyping.{Typed, TypedExpression, TypedNeutral, TypedTuple, suited, suited_all, typed_app, typed_atomic, typed_bare, typed_done, typed_empty, typed_entry, typed_fst, typed_lam, typed_metavariable, typed_monadic, typed_pair, typed_snd, typed_step, typed_unit}

meta_back : (r : Renumbering) (h : Head) (k : ℕ) → ren_head r h ≡ Meta k → h ≡ Meta k
meta_back r (Const c) k e = absurd (cc)
meta_back r (Var i) k e = absurd (cc)
meta_back r (Meta m) k e = e

-- what is typed after a renaming was typed before it
mutual
  pub typed_back : (w : Bool) (z : Assignment) (r : Renumbering) (g : Assignment) → ((h : Head) → z (ren_head r h) ≡ g h) → (o : PlainObject) {t : SimpleType} → Typed w z (ren r o) t → Typed w g o t
  typed_back w z r g f (lam m b) (typed_lam {d = d} p) = typed_lam (typed_back w (extended d z) (lifted 1 r) (extended d g) (suited d g z r f) b p)
  typed_back w z r g f (pair x y) (typed_pair p q) = typed_pair (typed_back w z r g f x p) (typed_back w z r g f y q)
  typed_back w z r g f unit typed_unit = typed_unit
  typed_back w z r g f (monadic e) (typed_monadic p) = typed_monadic (typed_back_expression w z r g f e p)
  typed_back w z r g f (atomic n) (typed_atomic p) = typed_atomic (typed_back_neutral w z r g f n p)
  typed_back w z r g f (atomic n) (typed_metavariable {k = k} j p e) = typed_metavariable j (typed_back_neutral w z r g f n p) (meta_back r (head_of n) k (sym (head_renamed r n) ∙ e))
  typed_back w z r g f hole p = elim p [ ]

  pub typed_back_neutral : (w : Bool) (z : Assignment) (r : Renumbering) (g : Assignment) → ((h : Head) → z (ren_head r h) ≡ g h) → (n : PlainNeutral) {t : SimpleType} → TypedNeutral w z (ren_neutral r n) t → TypedNeutral w g n t
  typed_back_neutral w z r g f (head_alone h) (typed_bare e) = typed_bare (sym (f h) ∙ e)
  typed_back_neutral w z r g f (app m n o) (typed_app p q) = typed_app (typed_back_neutral w z r g f n p) (typed_back w z r g f o q)
  typed_back_neutral w z r g f (fst n) (typed_fst p) = typed_fst (typed_back_neutral w z r g f n p)
  typed_back_neutral w z r g f (snd n) (typed_snd p) = typed_snd (typed_back_neutral w z r g f n p)

  pub typed_back_expression : (w : Bool) (z : Assignment) (r : Renumbering) (g : Assignment) → ((h : Head) → z (ren_head r h) ≡ g h) → (e : PlainExpression) {ts : SimpleTelescope} → TypedExpression w z (ren_expression r e) ts → TypedExpression w g e ts
  typed_back_expression w z r g f (step ms n e) (typed_step {ts = ts} p m q) = typed_step (typed_back_neutral w z r g f n p) m
      (typed_back_expression w (extended_by ts z) (lifted (length ms) r) (extended_by ts g) (subst (λ k. (h : Head) → extended_by ts z (ren_head (lifted k r) h) ≡ extended_by ts g h) (sym (ap length m)) (suited_all ts g z r f)) e q)
  typed_back_expression w z r g f (done t) (typed_done p) = typed_done (typed_back_tuple w z r g f t p)

  pub typed_back_tuple : (w : Bool) (z : Assignment) (r : Renumbering) (g : Assignment) → ((h : Head) → z (ren_head r h) ≡ g h) → (t : PlainTuple) {ts : SimpleTelescope} → TypedTuple w z (ren_tuple r t) ts → TypedTuple w g t ts
  typed_back_tuple w z r g f empty typed_empty = typed_empty
  typed_back_tuple w z r g f (entry m o t) (typed_entry p q) = typed_entry (typed_back w z r g f o p) (typed_back_tuple w z r g f t q)
