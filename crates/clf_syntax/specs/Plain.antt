-- The plain tree of a declared object: one fold over the trees of the cycle, and its equation for each constructor.
use Rattle.std.specs.Prelude.{List, map, ◌≡◌}
use Rattle.std.proofs.Common.{ap}
use Rattle.clf_syntax.specs.declared.tree.Mode.{Mode}
use Rattle.clf_syntax.specs.declared.tree.Obj.{Obj, Lam, Pair, Unit as UnitObj, Mon, At, Hole, fold-Obj, fold-roll-Obj}
use Rattle.clf_syntax.specs.declared.tree.Neutral.{Neutral, fold-Neutral, fold_out-Neutral}
use Rattle.clf_syntax.specs.declared.tree.Elim.{Elim, Arg, First, Second, fold-Elim, fold-roll-Elim}
use Rattle.clf_syntax.specs.declared.tree.Expr.{Expr, roll-Expr, fold-roll-Expr, fold-Expr, fold_out-Expr, out-Expr}
use Rattle.clf_syntax.specs.declared.tree.Step.{Step, fold-Step, fold_out-Step, out-Step}
use Rattle.clf_syntax.specs.declared.tree.TupleEntry.{TupleEntry, fold-TupleEntry, fold_out-TupleEntry}
use Rattle.clf_syntax.specs.declared.tree.Elim.TheOpen as layer
use Rattle.clf_syntax.specs.declared.tree.Elim.TheViews.{roll-Obj, roll-Elim}
use denote.Hole.Carrier.{roll}
use Rattle.clf_syntax.specs.Tree.{PlainObject, lam, pair, unit, monadic, atomic, hole, PlainNeutral, head_alone, PlainExpression, done, PlainElimination, arg, first, second, spine_on, steps_on, tuple_of}

abbrev pub on_elim : layer.Elim-F PlainElimination PlainObject PlainExpression PlainNeutral (List Mode × PlainNeutral) (Mode × PlainObject) → PlainElimination
on_elim (layer.Arg m o) = arg m o
on_elim layer.First = first
on_elim layer.Second = second

abbrev pub on_obj : layer.Obj-F PlainElimination PlainObject PlainExpression PlainNeutral (List Mode × PlainNeutral) (Mode × PlainObject) → PlainObject
on_obj (layer.Lam m b) = lam m b
on_obj (layer.Pair l r) = pair l r
on_obj layer.Unit = unit
on_obj (layer.Mon e) = monadic e
on_obj (layer.At n) = atomic n
on_obj layer.Hole = hole

abbrev pub on_expr : layer.Expr-F PlainElimination PlainObject PlainExpression PlainNeutral (List Mode × PlainNeutral) (Mode × PlainObject) → PlainExpression
on_expr e = steps_on e.steps (done (tuple_of e.result))

abbrev pub on_neutral : layer.Neutral-F PlainElimination PlainObject PlainExpression PlainNeutral (List Mode × PlainNeutral) (Mode × PlainObject) → PlainNeutral
on_neutral n = spine_on n.spine (head_alone n.head)

abbrev pub on_step : layer.Step-F PlainElimination PlainObject PlainExpression PlainNeutral (List Mode × PlainNeutral) (Mode × PlainObject) → List Mode × PlainNeutral
on_step s = (s.modes, s.rhs)

abbrev pub on_entry : layer.TupleEntry-F PlainElimination PlainObject PlainExpression PlainNeutral (List Mode × PlainNeutral) (Mode × PlainObject) → Mode × PlainObject
on_entry t = (t.mode, t.obj)

unfoldable pub plain_obj : Obj → PlainObject
plain_obj = fold-Obj PlainElimination PlainObject PlainExpression PlainNeutral (List Mode × PlainNeutral) (Mode × PlainObject) on_elim on_obj on_expr on_neutral on_step on_entry

unfoldable pub plain_elim : Elim → PlainElimination
plain_elim = fold-Elim PlainElimination PlainObject PlainExpression PlainNeutral (List Mode × PlainNeutral) (Mode × PlainObject) on_elim on_obj on_expr on_neutral on_step on_entry

unfoldable pub plain_expr : Expr → PlainExpression
plain_expr = fold-Expr PlainElimination PlainObject PlainExpression PlainNeutral (List Mode × PlainNeutral) (Mode × PlainObject) on_elim on_obj on_expr on_neutral on_step on_entry

unfoldable pub plain_neutral : Neutral → PlainNeutral
plain_neutral = fold-Neutral PlainElimination PlainObject PlainExpression PlainNeutral (List Mode × PlainNeutral) (Mode × PlainObject) on_elim on_obj on_expr on_neutral on_step on_entry

unfoldable pub plain_step : Step → List Mode × PlainNeutral
plain_step = fold-Step PlainElimination PlainObject PlainExpression PlainNeutral (List Mode × PlainNeutral) (Mode × PlainObject) on_elim on_obj on_expr on_neutral on_step on_entry

unfoldable pub plain_entry : TupleEntry → Mode × PlainObject
plain_entry = fold-TupleEntry PlainElimination PlainObject PlainExpression PlainNeutral (List Mode × PlainNeutral) (Mode × PlainObject) on_elim on_obj on_expr on_neutral on_step on_entry

pub plain-Lam : (m : Mode) (b : Obj) → plain_obj (Lam m b) ≡ lam m (plain_obj b)
unfolding plain_obj plain_elim plain_expr plain_neutral plain_step plain_entry roll-Obj roll-Elim roll
plain-Lam m b = fold-roll-Obj _ _ _ _ _ _ on_elim on_obj on_expr on_neutral on_step on_entry (layer.Lam m b)

pub plain-Pair : (l r : Obj) → plain_obj (Pair l r) ≡ pair (plain_obj l) (plain_obj r)
unfolding plain_obj plain_elim plain_expr plain_neutral plain_step plain_entry roll-Obj roll-Elim roll
plain-Pair l r = fold-roll-Obj _ _ _ _ _ _ on_elim on_obj on_expr on_neutral on_step on_entry (layer.Pair l r)

pub plain-Unit : plain_obj UnitObj ≡ unit
unfolding plain_obj plain_elim plain_expr plain_neutral plain_step plain_entry roll-Obj roll-Elim roll
plain-Unit = fold-roll-Obj _ _ _ _ _ _ on_elim on_obj on_expr on_neutral on_step on_entry layer.Unit

pub plain-Mon : (e : Expr) → plain_obj (Mon e) ≡ monadic (plain_expr e)
unfolding plain_obj plain_elim plain_expr plain_neutral plain_step plain_entry roll-Obj roll-Elim roll
plain-Mon e = fold-roll-Obj _ _ _ _ _ _ on_elim on_obj on_expr on_neutral on_step on_entry (layer.Mon e)

pub plain-At : (n : Neutral) → plain_obj (At n) ≡ atomic (plain_neutral n)
unfolding plain_obj plain_elim plain_expr plain_neutral plain_step plain_entry roll-Obj roll-Elim roll
plain-At n = fold-roll-Obj _ _ _ _ _ _ on_elim on_obj on_expr on_neutral on_step on_entry (layer.At n)

pub plain-Hole : plain_obj Hole ≡ hole
unfolding plain_obj plain_elim plain_expr plain_neutral plain_step plain_entry roll-Obj roll-Elim roll
plain-Hole = fold-roll-Obj _ _ _ _ _ _ on_elim on_obj on_expr on_neutral on_step on_entry layer.Hole

pub plain-Arg : (m : Mode) (o : Obj) → plain_elim (Arg m o) ≡ arg m (plain_obj o)
unfolding plain_obj plain_elim plain_expr plain_neutral plain_step plain_entry roll-Obj roll-Elim roll
plain-Arg m o = (fold-roll-Elim _ _ _ _ _ _ on_elim on_obj on_expr on_neutral on_step on_entry (layer.Arg m o))

pub plain-First : plain_elim First ≡ first
unfolding plain_obj plain_elim plain_expr plain_neutral plain_step plain_entry roll-Obj roll-Elim roll
plain-First = (fold-roll-Elim _ _ _ _ _ _ on_elim on_obj on_expr on_neutral on_step on_entry layer.First)

pub plain-Second : plain_elim Second ≡ second
unfolding plain_obj plain_elim plain_expr plain_neutral plain_step plain_entry roll-Obj roll-Elim roll
plain-Second = (fold-roll-Elim _ _ _ _ _ _ on_elim on_obj on_expr on_neutral on_step on_entry layer.Second)

pub plain-neutral : (n : Neutral) → plain_neutral n ≡ spine_on (map plain_elim n.spine) (head_alone n.head)
unfolding plain_obj plain_elim plain_expr plain_neutral plain_step plain_entry roll-Obj roll-Elim roll
plain-neutral n = fold_out-Neutral _ _ _ _ _ _ on_elim on_obj on_expr on_neutral on_step on_entry n

pub plain-expr : (e : Expr) → plain_expr e ≡ steps_on (map plain_step (out-Expr e).steps) (done (tuple_of (map plain_entry (out-Expr e).result)))
unfolding plain_obj plain_elim plain_expr plain_neutral plain_step plain_entry roll-Obj roll-Elim roll
plain-expr e = fold_out-Expr _ _ _ _ _ _ on_elim on_obj on_expr on_neutral on_step on_entry e

pub plain-Expr : (steps : List Step) (result : List TupleEntry) → plain_expr (roll-Expr (record { steps = steps; result = result })) ≡ steps_on (map plain_step steps) (done (tuple_of (map plain_entry result)))
unfolding plain_obj plain_elim plain_expr plain_neutral plain_step plain_entry
plain-Expr steps result = fold-roll-Expr _ _ _ _ _ _ on_elim on_obj on_expr on_neutral on_step on_entry (record { steps = steps; result = result })

pub plain-step : (s : Step) → plain_step s ≡ (s.modes, plain_neutral (out-Step s).rhs)
unfolding plain_obj plain_elim plain_expr plain_neutral plain_step plain_entry roll-Obj roll-Elim roll
plain-step s = fold_out-Step _ _ _ _ _ _ on_elim on_obj on_expr on_neutral on_step on_entry s

pub plain-entry : (t : TupleEntry) → plain_entry t ≡ (t.mode, plain_obj t.obj)
unfolding plain_obj plain_elim plain_expr plain_neutral plain_step plain_entry roll-Obj roll-Elim roll
plain-entry t = fold_out-TupleEntry _ _ _ _ _ _ on_elim on_obj on_expr on_neutral on_step on_entry t

pub plain-step-modes : (s : Step) → (plain_step s).0 ≡ s.modes
plain-step-modes s = ap (λ (p : List Mode × PlainNeutral). p.0) (plain-step s)

pub plain-step-rhs : (s : Step) → (plain_step s).1 ≡ plain_neutral (out-Step s).rhs
plain-step-rhs s = ap (λ (p : List Mode × PlainNeutral). p.1) (plain-step s)

pub plain-entry-mode : (t : TupleEntry) → (plain_entry t).0 ≡ t.mode
plain-entry-mode t = ap (λ (p : Mode × PlainObject). p.0) (plain-entry t)

pub plain-entry-obj : (t : TupleEntry) → (plain_entry t).1 ≡ plain_obj t.obj
plain-entry-obj t = ap (λ (p : Mode × PlainObject). p.1) (plain-entry t)

pub ruleset plain_laws = (plain-Lam, plain-Pair, plain-Unit, plain-Mon, plain-At, plain-Hole, plain-Arg, plain-First, plain-Second, plain-neutral, plain-expr, plain-Expr, plain-step, plain-entry, plain-step-modes, plain-step-rhs, plain-entry-mode, plain-entry-obj)
