-- Inner: heads replaced by others, with the number of binders on the way at hand, and the parts of that for one elimination, entry and step.
use Rattle.std.specs.Prelude.{ℕ, ◌+◌, List, [], ◌∷◌, map, length}
use Rattle.clf_syntax.specs.declared.tree.Mode.{Mode}
use Rattle.clf_syntax.specs.Tree.{PlainObject, lam, pair, unit, monadic, atomic, hole, PlainNeutral, head_alone, app, fst, snd, PlainExpression, step, done, PlainTuple, empty, entry, PlainElimination, arg, first, second}
use Rattle.clf_syntax.specs.TypeTree.{PlainType, family, function, both, top, monad, PlainTelescope, end, binding, PlainKind}
use Rattle.clf_syntax.specs.declared.tree.Head.{Head}

abbrev mutual
  pub replaced : (ℕ → Head → Head) → ℕ → PlainObject → PlainObject
  replaced g d (lam m b) = lam m (replaced g (d + 1) b)
  replaced g d (pair x y) = pair (replaced g d x) (replaced g d y)
  replaced g d unit = unit
  replaced g d (monadic e) = monadic (replaced_expression g d e)
  replaced g d (atomic n) = atomic (replaced_neutral g d n)
  replaced g d hole = hole

  pub replaced_neutral : (ℕ → Head → Head) → ℕ → PlainNeutral → PlainNeutral
  replaced_neutral g d (head_alone h) = head_alone (g d h)
  replaced_neutral g d (app m x n) = app m (replaced_neutral g d x) (replaced g d n)
  replaced_neutral g d (fst x) = fst (replaced_neutral g d x)
  replaced_neutral g d (snd x) = snd (replaced_neutral g d x)

  pub replaced_expression : (ℕ → Head → Head) → ℕ → PlainExpression → PlainExpression
  replaced_expression g d (step ms x e) = step ms (replaced_neutral g d x) (replaced_expression g (d + length ms) e)
  replaced_expression g d (done t) = done (replaced_tuple g d t)

  pub replaced_tuple : (ℕ → Head → Head) → ℕ → PlainTuple → PlainTuple
  replaced_tuple g d empty = empty
  replaced_tuple g d (entry m n t) = entry m (replaced g d n) (replaced_tuple g d t)

abbrev mutual
  pub replaced_type : (ℕ → Head → Head) → ℕ → PlainType → PlainType
  replaced_type g d (family f ns) = family f (map (replaced g d) ns)
  replaced_type g d (function m a b) = function m (replaced_type g d a) (replaced_type g (d + 1) b)
  replaced_type g d (both a b) = both (replaced_type g d a) (replaced_type g d b)
  replaced_type g d top = top
  replaced_type g d (monad s) = monad (replaced_telescope g d s)

  pub replaced_telescope : (ℕ → Head → Head) → ℕ → PlainTelescope → PlainTelescope
  replaced_telescope g d end = end
  replaced_telescope g d (binding m a s) = binding m (replaced_type g d a) (replaced_telescope g (d + 1) s)

abbrev pub replaced_kind : (ℕ → Head → Head) → ℕ → PlainKind → PlainKind
replaced_kind g d [] = []
replaced_kind g d (a ∷ k) = replaced_type g d a ∷ replaced_kind g (d + 1) k

abbrev pub replaced_elimination : (ℕ → Head → Head) → ℕ → PlainElimination → PlainElimination
replaced_elimination g d (arg m n) = arg m (replaced g d n)
replaced_elimination g d first = first
replaced_elimination g d second = second

abbrev pub replaced_entry : (ℕ → Head → Head) → ℕ → Mode × PlainObject → Mode × PlainObject
replaced_entry g d e = (e.0, replaced g d e.1)

abbrev pub replaced_step : (ℕ → Head → Head) → ℕ → List Mode × PlainNeutral → List Mode × PlainNeutral
replaced_step g d s = (s.0, replaced_neutral g d s.1)

abbrev pub replaced_tele_entry : (ℕ → Head → Head) → ℕ → Mode × PlainType → Mode × PlainType
replaced_tele_entry g d e = (e.0, replaced_type g d e.1)
