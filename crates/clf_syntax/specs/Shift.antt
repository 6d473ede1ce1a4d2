-- Shift: every free variable from a number on rises by the same amount.
use Rattle.std.specs.Prelude.{ℕ, ◌+◌, nat_le, if◌then◌else◌, [], ◌∷◌, map, length}
use Rattle.clf_syntax.specs.declared.tree.Head.{Head}
use Rattle.clf_syntax.specs.declared.tree.Head.TheVariants.{Const, Var, Meta}
use Rattle.clf_syntax.specs.Tree.{PlainObject, lam, pair, unit, monadic, atomic, hole, PlainNeutral, head_alone, app, fst, snd, PlainExpression, step, done, PlainTuple, empty, entry}
use Rattle.clf_syntax.specs.TypeTree.{PlainType, family, function, both, top, monad, PlainTelescope, end, binding, PlainKind}

abbrev pub shift_head : ℕ → ℕ → Head → Head
shift_head by from (Const c) = Const c
shift_head by from (Var i) = Var (if nat_le from i then i + by else i)
shift_head by from (Meta m) = Meta m

abbrev mutual
  pub shift : ℕ → ℕ → PlainObject → PlainObject
  shift by from (lam m b) = lam m (shift by (from + 1) b)
  shift by from (pair l r) = pair (shift by from l) (shift by from r)
  shift by from unit = unit
  shift by from (monadic e) = monadic (shift_expression by from e)
  shift by from (atomic n) = atomic (shift_neutral by from n)
  shift by from hole = hole

  pub shift_neutral : ℕ → ℕ → PlainNeutral → PlainNeutral
  shift_neutral by from (head_alone h) = head_alone (shift_head by from h)
  shift_neutral by from (app m r n) = app m (shift_neutral by from r) (shift by from n)
  shift_neutral by from (fst r) = fst (shift_neutral by from r)
  shift_neutral by from (snd r) = snd (shift_neutral by from r)

  pub shift_expression : ℕ → ℕ → PlainExpression → PlainExpression
  shift_expression by from (step ms r e) = step ms (shift_neutral by from r) (shift_expression by (from + length ms) e)
  shift_expression by from (done t) = done (shift_tuple by from t)

  pub shift_tuple : ℕ → ℕ → PlainTuple → PlainTuple
  shift_tuple by from empty = empty
  shift_tuple by from (entry m n t) = entry m (shift by from n) (shift_tuple by from t)

abbrev mutual
  pub shift_type : ℕ → ℕ → PlainType → PlainType
  shift_type by from (family f ns) = family f (map (shift by from) ns)
  shift_type by from (function m a b) = function m (shift_type by from a) (shift_type by (from + 1) b)
  shift_type by from (both a b) = both (shift_type by from a) (shift_type by from b)
  shift_type by from top = top
  shift_type by from (monad s) = monad (shift_telescope by from s)

  pub shift_telescope : ℕ → ℕ → PlainTelescope → PlainTelescope
  shift_telescope by from end = end
  shift_telescope by from (binding m a s) = binding m (shift_type by from a) (shift_telescope by (from + 1) s)

abbrev pub shift_kind : ℕ → ℕ → PlainKind → PlainKind
shift_kind by from [] = []
shift_kind by from (a ∷ k) = shift_type by from a ∷ shift_kind by (from + 1) k
