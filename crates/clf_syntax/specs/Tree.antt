-- Plain trees of objects: what contracts see of `Obj`, `Neutral`, `Expr` and their parts.
-- A spine is nested, as applications and projections, and an expression is a chain of steps.
use Rattle.std.specs.Prelude.{List, [], ◌∷◌}
use Rattle.clf_syntax.specs.declared.tree.Mode.{Mode}
use Rattle.clf_syntax.specs.declared.tree.Head.{Head}

mutual
  -- a normal object
  pub data PlainObject : Type 0 where
    lam : Mode → PlainObject → PlainObject
    pair : PlainObject → PlainObject → PlainObject
    unit : PlainObject
    monadic : PlainExpression → PlainObject
    atomic : PlainNeutral → PlainObject
    hole : PlainObject

  -- a head under applications and projections
  pub data PlainNeutral : Type 0 where
    head_alone : Head → PlainNeutral
    app : Mode → PlainNeutral → PlainObject → PlainNeutral
    fst : PlainNeutral → PlainNeutral
    snd : PlainNeutral → PlainNeutral

  -- steps `let {p} = R in`, each of which binds as many variables as it has modes, and a tuple at the end
  pub data PlainExpression : Type 0 where
    step : List Mode → PlainNeutral → PlainExpression → PlainExpression
    done : PlainTuple → PlainExpression

  pub data PlainTuple : Type 0 where
    empty : PlainTuple
    entry : Mode → PlainObject → PlainTuple → PlainTuple

-- one place of a spine
pub data PlainElimination : Type 0 where
  arg : Mode → PlainObject → PlainElimination
  first : PlainElimination
  second : PlainElimination

abbrev pub eliminated : PlainElimination → PlainNeutral → PlainNeutral
eliminated (arg m o) r = app m r o
eliminated first r = fst r
eliminated second r = snd r

-- a neutral under the eliminations of a spine, the first one innermost
abbrev pub spine_on : List PlainElimination → PlainNeutral → PlainNeutral
spine_on [] r = r
spine_on (e ∷ es) r = spine_on es (eliminated e r)

abbrev pub steps_on : List (List Mode × PlainNeutral) → PlainExpression → PlainExpression
steps_on [] e = e
steps_on (s ∷ ss) e = step s.0 s.1 (steps_on ss e)

abbrev pub tuple_of : List (Mode × PlainObject) → PlainTuple
tuple_of [] = empty
tuple_of (t ∷ ts) = entry t.0 t.1 (tuple_of ts)

abbrev pub head_of : PlainNeutral → Head
head_of (head_alone h) = h
head_of (app m r n) = head_of r
head_of (fst r) = head_of r
head_of (snd r) = head_of r
