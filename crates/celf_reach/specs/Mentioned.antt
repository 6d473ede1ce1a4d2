-- Inner: whether a tree mentions a metavariable.
use Rattle.std.specs.Prelude.{◌||◌, Bool, false}
use Rattle.clf_syntax.specs.Tree.{PlainObject, lam, pair, unit, monadic, atomic, hole, PlainNeutral, head_alone, app, fst, snd, PlainExpression, step, done, PlainTuple, empty, entry, PlainElimination, arg, first, second}
use Rattle.hered_subst.specs.TypedEnvironments.{is_metavariable}

abbrev mutual
  pub mentions_some : PlainObject → Bool
  mentions_some (lam m b) = mentions_some b
  mentions_some (pair l r) = mentions_some l || mentions_some r
  mentions_some unit = false
  mentions_some (monadic e) = mentions_some_expression e
  mentions_some (atomic n) = mentions_some_neutral n
  mentions_some hole = false

  pub mentions_some_neutral : PlainNeutral → Bool
  mentions_some_neutral (head_alone h) = is_metavariable h
  mentions_some_neutral (app m r n) = mentions_some_neutral r || mentions_some n
  mentions_some_neutral (fst r) = mentions_some_neutral r
  mentions_some_neutral (snd r) = mentions_some_neutral r

  pub mentions_some_expression : PlainExpression → Bool
  mentions_some_expression (step ms r e) = mentions_some_neutral r || mentions_some_expression e
  mentions_some_expression (done t) = mentions_some_tuple t

  pub mentions_some_tuple : PlainTuple → Bool
  mentions_some_tuple empty = false
  mentions_some_tuple (entry m n t) = mentions_some n || mentions_some_tuple t

abbrev pub mentions_some_elimination : PlainElimination → Bool
mentions_some_elimination (arg m n) = mentions_some n
mentions_some_elimination first = false
mentions_some_elimination second = false
