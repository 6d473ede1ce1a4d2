-- What does not hold: an exchange of steps keeps the type. It loses it where <> took what an earlier step binds: <> takes without
-- mention, and an exchange asks of mentions alone. So an object that is joined with a typed one may have no type, and "joined and
-- typed" always asks that both sides are typed.
use Rattle.std.specs.Prelude.{ℕ, [], ◌∷◌}
use Rattle.clf_syntax.specs.declared.tree.Mode.TheVariants.{Linear}
use Rattle.clf_syntax.specs.declared.tree.Head.TheVariants.{Const, Var}
use Rattle.clf_syntax.specs.Tree.{unit, atomic, PlainNeutral, head_alone, app, PlainExpression, step, done, empty, entry}
use Rattle.clf_syntax.specs.TypeTree.{PlainType, family, function, top, monad, PlainTelescope, end, binding}
use Rattle.trace_equal.specs.Exchange.{ExchangedExpression}
use Rattle.clf_sig.specs.Entry.{PlainSignature, family_of, constant_of}
use Rattle.clf_rules.specs.Typing.{ExpressionHasType}

-- a : type. b : type. c : {a}. k : <T> -o {b}.
abbrev pub in_monad_of : ℕ → PlainType
in_monad_of f = monad (binding Linear (family f []) end)

abbrev pub four : PlainSignature
four = (97 ∷ [], record { implicit = 0; class = family_of [] })
    ∷ (98 ∷ [], record { implicit = 0; class = family_of [] })
    ∷ (99 ∷ [], record { implicit = 0; class = constant_of (in_monad_of 0) })
    ∷ (107 ∷ [], record { implicit = 0; class = constant_of (function Linear top (in_monad_of 1)) })
    ∷ []

-- k <>
abbrev pub taking : PlainNeutral
taking = app Linear (head_alone (Const 3)) unit

-- let {x} = c in let {y} = k <> in y
abbrev pub before : PlainExpression
before = step (Linear ∷ []) (head_alone (Const 2)) (step (Linear ∷ []) taking (done (entry Linear (atomic (head_alone (Var 0))) empty)))

-- let {y} = k <> in let {x} = c in y
abbrev pub after : PlainExpression
after = step (Linear ∷ []) taking (step (Linear ∷ []) (head_alone (Const 2)) (done (entry Linear (atomic (head_alone (Var 1))) empty)))

-- An exchange leads from the one to the other, the one has the result {b}, and the other has none.
abbrev pub ExchangeLosesTypes : Type 0
ExchangeLosesTypes = ExchangedExpression before after
    × ExpressionHasType four [] [] before (binding Linear (family 1 []) end)
    × ((s : PlainTelescope) → ExpressionHasType four [] [] after s → ⊥)
