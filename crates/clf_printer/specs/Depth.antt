-- How deep the binders of objects, types and entries nest.
use Rattle.std.specs.Prelude.{ℕ, ◌+◌, max, length, List, [], ◌∷◌}
use Rattle.clf_syntax.specs.Tree.{PlainObject, lam, pair, unit, monadic, atomic, hole, PlainNeutral, head_alone, app, fst, snd, PlainExpression, step, done, PlainTuple, empty, entry}
use Rattle.clf_syntax.specs.TypeTree.{PlainType, family, function, both, top, monad, PlainTelescope, end, binding, PlainKind}
use Rattle.clf_sig.specs.Entry.{PlainClass, family_of, constant_of}

-- how many variables are bound around the innermost part of an object
abbrev mutual
  pub scope_depth : PlainObject → ℕ
  scope_depth (lam m b) = scope_depth b + 1
  scope_depth (pair l r) = max (scope_depth l) (scope_depth r)
  scope_depth unit = 0
  scope_depth (monadic e) = expression_depth e
  scope_depth (atomic n) = neutral_depth n
  scope_depth hole = 0

  pub neutral_depth : PlainNeutral → ℕ
  neutral_depth (head_alone h) = 0
  neutral_depth (app m r n) = max (neutral_depth r) (scope_depth n)
  neutral_depth (fst r) = neutral_depth r
  neutral_depth (snd r) = neutral_depth r

  pub expression_depth : PlainExpression → ℕ
  expression_depth (step ms r e) = max (neutral_depth r) (expression_depth e + length ms)
  expression_depth (done t) = tuple_depth t

  pub tuple_depth : PlainTuple → ℕ
  tuple_depth empty = 0
  tuple_depth (entry m n t) = max (scope_depth n) (tuple_depth t)

abbrev pub indices_depth : List PlainObject → ℕ
indices_depth [] = 0
indices_depth (n ∷ ns) = max (scope_depth n) (indices_depth ns)

-- the same of a type: a function and an entry bind one variable in what follows them
abbrev mutual
  pub type_depth : PlainType → ℕ
  type_depth (family k ns) = indices_depth ns
  type_depth (function m a b) = max (type_depth a) (type_depth b + 1)
  type_depth (both a b) = max (type_depth a) (type_depth b)
  type_depth top = 0
  type_depth (monad s) = telescope_depth s

  pub telescope_depth : PlainTelescope → ℕ
  telescope_depth end = 0
  telescope_depth (binding m a s) = max (type_depth a) (telescope_depth s + 1)

abbrev pub kind_depth : PlainKind → ℕ
kind_depth [] = 0
kind_depth (a ∷ k) = max (type_depth a) (kind_depth k + 1)

abbrev pub class_depth : PlainClass → ℕ
class_depth (family_of k) = kind_depth k
class_depth (constant_of a) = type_depth a
