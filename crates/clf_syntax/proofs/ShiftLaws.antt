-- The shift by cases is a renaming.
use Rattle.std.specs.Prelude.{ℕ, ◌+◌, ◌≡◌, List, [], ◌∷◌, map, length, refl}
use Rattle.std.proofs.Common.{ap, sym, ◌∙◌, arith}
use Rattle.clf_syntax.specs.declared.tree.Head.TheVariants.{Const, Var, Meta}
use Rattle.clf_syntax.specs.Tree.{PlainObject, lam, pair, unit, monadic, atomic, hole, PlainNeutral, head_alone, app, fst, snd, PlainExpression, step, done, PlainTuple, empty, entry}
use Rattle.clf_syntax.specs.TypeTree.{PlainType, family, function, both, top, monad, PlainTelescope, end, binding}
use Rattle.clf_syntax.specs.Renaming.{lifted, ren, ren_neutral, ren_expression, ren_tuple, ren_objects, ren_type, ren_telescope, raise}
use Rattle.clf_syntax.specs.Shift.{shift, shift_neutral, shift_expression, shift_tuple, shift_type, shift_telescope}
use Rattle.clf_syntax.proofs.RenamingLaws.{ext, pairs, apps, binds, entries}
use Rattle.clf_syntax.proofs.TypeRenaming.{conses, functions, boths, bindings}

pub lift_raise : (n by from : ℕ) → lifted n (raise by from) ≡ raise by (from + n)
lift_raise n by from = ext (λ i. grind arith)

mutual
  pub shift-ren : (by from : ℕ) (o : PlainObject) → shift by from o ≡ ren (raise by from) o
  shift-ren by from (lam m b) = ap (lam m) (shift-ren by (from + 1) b ∙ ap (λ r. ren r b) (sym (lift_raise 1 by from)))
  shift-ren by from (pair l r) = pairs (shift-ren by from l) (shift-ren by from r)
  shift-ren by from unit = refl
  shift-ren by from (monadic e) = ap monadic (shift-ren_expression by from e)
  shift-ren by from (atomic n) = ap atomic (shift-ren_neutral by from n)
  shift-ren by from hole = refl

  pub shift-ren_neutral : (by from : ℕ) (n : PlainNeutral) → shift_neutral by from n ≡ ren_neutral (raise by from) n
  shift-ren_neutral by from (head_alone (Const c)) = refl
  shift-ren_neutral by from (head_alone (Var i)) = refl
  shift-ren_neutral by from (head_alone (Meta m)) = refl
  shift-ren_neutral by from (app m r o) = apps m (shift-ren_neutral by from r) (shift-ren by from o)
  shift-ren_neutral by from (fst r) = ap fst (shift-ren_neutral by from r)
  shift-ren_neutral by from (snd r) = ap snd (shift-ren_neutral by from r)

  pub shift-ren_expression : (by from : ℕ) (e : PlainExpression) → shift_expression by from e ≡ ren_expression (raise by from) e
  shift-ren_expression by from (step ms r e) = binds ms (shift-ren_neutral by from r) (shift-ren_expression by (from + length ms) e ∙ ap (λ r. ren_expression r e) (sym (lift_raise (length ms) by from)))
  shift-ren_expression by from (done t) = ap done (shift-ren_tuple by from t)

  pub shift-ren_tuple : (by from : ℕ) (t : PlainTuple) → shift_tuple by from t ≡ ren_tuple (raise by from) t
  shift-ren_tuple by from empty = refl
  shift-ren_tuple by from (entry m n t) = entries m (shift-ren by from n) (shift-ren_tuple by from t)

shift-ren_objects : (by from : ℕ) (ns : List PlainObject) → map (shift by from) ns ≡ ren_objects (raise by from) ns
shift-ren_objects by from [] = refl
shift-ren_objects by from (n ∷ ns) = conses (shift-ren by from n) (shift-ren_objects by from ns)

mutual
  pub shift-ren_type : (by from : ℕ) (a : PlainType) → shift_type by from a ≡ ren_type (raise by from) a
  shift-ren_type by from (family f ns) = ap (family f) (shift-ren_objects by from ns)
  shift-ren_type by from (function m a b) = functions m (shift-ren_type by from a) (shift-ren_type by (from + 1) b ∙ ap (λ r. ren_type r b) (sym (lift_raise 1 by from)))
  shift-ren_type by from (both a b) = boths (shift-ren_type by from a) (shift-ren_type by from b)
  shift-ren_type by from top = refl
  shift-ren_type by from (monad s) = ap monad (shift-ren_telescope by from s)

  pub shift-ren_telescope : (by from : ℕ) (s : PlainTelescope) → shift_telescope by from s ≡ ren_telescope (raise by from) s
  shift-ren_telescope by from end = refl
  shift-ren_telescope by from (binding m a s) = bindings m (shift-ren_type by from a) (shift-ren_telescope by (from + 1) s ∙ ap (λ r. ren_telescope r s) (sym (lift_raise 1 by from)))
