-- Whether a free variable occurs.
use Rattle.std.specs.Prelude.{ℕ, ◌+◌, ◌==◌, Bool, false, ◌||◌, [], ◌∷◌, length}
use Rattle.std.specs.List.{list_any}
use Rattle.clf_syntax.specs.declared.tree.Head.{Head}
use Rattle.clf_syntax.specs.declared.tree.Head.TheVariants.{Const, Var, Meta}
use Rattle.clf_syntax.specs.Tree.{PlainObject, lam, pair, unit, monadic, atomic, hole, PlainNeutral, head_alone, app, fst, snd, PlainExpression, step, done, PlainTuple, empty, entry}
use Rattle.clf_syntax.specs.TypeTree.{PlainType, family, function, both, top, monad, PlainTelescope, end, binding, PlainKind}

abbrev pub is_variable : ℕ → Head → Bool
is_variable v (Const c) = false
is_variable v (Var i) = i == v
is_variable v (Meta m) = false

abbrev mutual
  pub occurs : ℕ → PlainObject → Bool
  occurs v (lam m b) = occurs (v + 1) b
  occurs v (pair l r) = occurs v l || occurs v r
  occurs v unit = false
  occurs v (monadic e) = occurs_expression v e
  occurs v (atomic n) = occurs_neutral v n
  occurs v hole = false

  pub occurs_neutral : ℕ → PlainNeutral → Bool
  occurs_neutral v (head_alone h) = is_variable v h
  occurs_neutral v (app m r n) = occurs_neutral v r || occurs v n
  occurs_neutral v (fst r) = occurs_neutral v r
  occurs_neutral v (snd r) = occurs_neutral v r

  pub occurs_expression : ℕ → PlainExpression → Bool
  occurs_expression v (step ms r e) = occurs_neutral v r || occurs_expression (v + length ms) e
  occurs_expression v (done t) = occurs_tuple v t

  pub occurs_tuple : ℕ → PlainTuple → Bool
  occurs_tuple v empty = false
  occurs_tuple v (entry m n t) = occurs v n || occurs_tuple v t

abbrev mutual
  pub occurs_type : ℕ → PlainType → Bool
  occurs_type v (family f ns) = list_any (occurs v) ns
  occurs_type v (function m a b) = occurs_type v a || occurs_type (v + 1) b
  occurs_type v (both a b) = occurs_type v a || occurs_type v b
  occurs_type v top = false
  occurs_type v (monad s) = occurs_telescope v s

  pub occurs_telescope : ℕ → PlainTelescope → Bool
  occurs_telescope v end = false
  occurs_telescope v (binding m a s) = occurs_type v a || occurs_telescope (v + 1) s

abbrev pub occurs_kind : ℕ → PlainKind → Bool
occurs_kind v [] = false
occurs_kind v (a ∷ k) = occurs_type v a || occurs_kind (v + 1) k
