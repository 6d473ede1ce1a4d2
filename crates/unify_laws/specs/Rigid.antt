-- Rigid places of an object, and the size of trees.
use Rattle.std.specs.Prelude.{ℕ, suc, ◌+◌, ◌≡◌, false}
use Rattle.clf_syntax.specs.declared.tree.Mode.{Mode}
use Rattle.clf_syntax.specs.Tree.{PlainObject, lam, pair, unit, monadic, atomic, hole, PlainNeutral, head_alone, app, fst, snd, PlainExpression, step, done, PlainTuple, empty, entry, head_of}
use Rattle.hered_subst.specs.TypedEnvironments.{is_metavariable}

mutual
  -- Stands d q o: the neutral q stands as an object at a rigid place of o, under d binders.
  -- A place is rigid where it is inside no argument of a metavariable and inside no monadic object.
  pub data Stands : ℕ → PlainNeutral → PlainObject → Type 0 where
    stands_here : {q : PlainNeutral} → Stands 0 q (atomic q)
    stands_body : {d : ℕ} {q : PlainNeutral} {m : Mode} {b : PlainObject} → Stands d q b → Stands (suc d) q (lam m b)
    stands_left : {d : ℕ} {q : PlainNeutral} {l r : PlainObject} → Stands d q l → Stands d q (pair l r)
    stands_right : {d : ℕ} {q : PlainNeutral} {l r : PlainObject} → Stands d q r → Stands d q (pair l r)
    stands_below : {d : ℕ} {q n : PlainNeutral} → is_metavariable (head_of n) ≡ false → StandsBelow d q n → Stands d q (atomic n)

  -- The same below a neutral: in one of its arguments.
  pub data StandsBelow : ℕ → PlainNeutral → PlainNeutral → Type 0 where
    below_argument : {d : ℕ} {q : PlainNeutral} {m : Mode} {r : PlainNeutral} {o : PlainObject} → Stands d q o → StandsBelow d q (app m r o)
    below_function : {d : ℕ} {q : PlainNeutral} {m : Mode} {r : PlainNeutral} {o : PlainObject} → StandsBelow d q r → StandsBelow d q (app m r o)
    below_fst : {d : ℕ} {q r : PlainNeutral} → StandsBelow d q r → StandsBelow d q (fst r)
    below_snd : {d : ℕ} {q r : PlainNeutral} → StandsBelow d q r → StandsBelow d q (snd r)

-- how many constructors a tree has
abbrev mutual
  pub size : PlainObject → ℕ
  size (lam m b) = suc (size b)
  size (pair l r) = suc (size l + size r)
  size unit = 1
  size (monadic e) = suc (size_expression e)
  size (atomic n) = suc (size_neutral n)
  size hole = 1

  pub size_neutral : PlainNeutral → ℕ
  size_neutral (head_alone h) = 1
  size_neutral (app m r n) = suc (size_neutral r + size n)
  size_neutral (fst r) = suc (size_neutral r)
  size_neutral (snd r) = suc (size_neutral r)

  pub size_expression : PlainExpression → ℕ
  size_expression (step ms r e) = suc (size_neutral r + size_expression e)
  size_expression (done t) = suc (size_tuple t)

  pub size_tuple : PlainTuple → ℕ
  size_tuple empty = 1
  size_tuple (entry m n t) = suc (size n + size_tuple t)
