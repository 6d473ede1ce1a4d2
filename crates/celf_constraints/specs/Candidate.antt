-- Inner: the one variable whose eta-long form an object can be, found without its type.
use Rattle.std.specs.Prelude.{ℕ, ◌-◌, nat_eq, if◌then◌else◌, Option, Some, None}
use Rattle.clf_syntax.specs.declared.tree.Head.{Head}
use Rattle.clf_syntax.specs.declared.tree.Head.TheVariants.{Const, Var, Meta}
use Rattle.clf_syntax.specs.Tree.{PlainObject, lam, pair, unit, monadic, atomic, hole, PlainExpression, step, done, head_of}

abbrev pub variable_of : Head → Option ℕ
variable_of (Const c) = None
variable_of (Var i) = Some i
variable_of (Meta m) = None

-- seen from outside a binder
abbrev pub lowered : Option ℕ → Option ℕ
lowered None = None
lowered (Some i) = if nat_eq i 0 then None else Some (i - 1)

abbrev pub or_else : Option ℕ → Option ℕ → Option ℕ
or_else None y = y
or_else (Some i) y = Some i

-- the variable of the first step
abbrev pub candidate_step : PlainExpression → Option ℕ
candidate_step (step ms r e) = variable_of (head_of r)
candidate_step (done t) = None

abbrev pub candidate : PlainObject → Option ℕ
candidate (lam m b) = lowered (candidate b)
candidate (pair l r) = or_else (candidate l) (candidate r)
candidate unit = None
candidate (monadic e) = candidate_step e
candidate (atomic n) = variable_of (head_of n)
candidate hole = None
