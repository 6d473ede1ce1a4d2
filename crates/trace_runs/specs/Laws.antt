-- Laws of runs, as statements; the functions of the crate's `laws` state them.
use Rattle.std.specs.Prelude.{◌≡◌, List, ◌++◌}
use Rattle.clf_syntax.specs.declared.tree.Mode.{Mode}
use Rattle.clf_syntax.specs.Renaming.{ren_telescope, up}
use Rattle.clf_syntax.specs.Tree.{PlainExpression, PlainNeutral, steps_on}
use Rattle.clf_syntax.specs.TypeTree.{PlainTelescope}
use Rattle.use_contexts.specs.Context.{modes}
use Rattle.use_contexts.specs.Holding.{Holding}
use Rattle.use_contexts.specs.Rows.{IsSubholding}
use Rattle.clf_rules.specs.Typing.{ExpressionHasType}
use Rattle.clf_sig.specs.Entry.{PlainSignature}
use Rattle.clf_decision.specs.Laws.{IsDecided}
use Rattle.clf_decision.specs.Starts.{Starts}
use Rattle.trace_runs.specs.Refused.{RefusesRun}
use Rattle.trace_runs.specs.Run.{IsRun, PlainState, bound}

-- A run, and an expression that has a result of a telescope in the state that it leads to, make an expression with that result.
abbrev pub RunGivesExpression : Type 0
RunGivesExpression = (sig : PlainSignature) (xs : List (List Mode × PlainNeutral)) (before after : PlainState) (e : PlainExpression) (u : PlainTelescope) → IsRun sig xs before after
    → ExpressionHasType sig after.context after.holding e (ren_telescope (up (bound xs)) u) → ExpressionHasType sig before.context before.holding (steps_on xs e) u

-- The expression has a result of the telescope under some part of what the state holds.
abbrev pub MayHaveResult : PlainSignature → PlainState → PlainExpression → PlainTelescope → Type 0
MayHaveResult sig s e u = (p : Holding) × IsSubholding (modes s.context) s.holding p × ExpressionHasType sig s.context p e u

-- The other way round, the steps of an expression with a result are a run. What follows them has that result under a part of what the run
-- leaves: a `<>` in a step may have taken what the least part does not take.
abbrev pub ExpressionBeginsWithRun : Type 0
ExpressionBeginsWithRun = (sig : PlainSignature) (xs : List (List Mode × PlainNeutral)) (before : PlainState) (e : PlainExpression) (u : PlainTelescope) → Starts sig before.context before.holding
    → MayHaveResult sig before (steps_on xs e) u → (after : PlainState) × IsRun sig xs before after × MayHaveResult sig after e (ren_telescope (up (bound xs)) u)

-- Two runs, the second from where the first leads to, are one.
abbrev pub RunsInTurn : Type 0
RunsInTurn = (sig : PlainSignature) (xs ys : List (List Mode × PlainNeutral)) (before between after : PlainState) → IsRun sig xs before between → IsRun sig ys between after → IsRun sig (xs ++ ys) before after

-- The steps of a run lead to one state.
abbrev pub RunIsOne : Type 0
RunIsOne = (sig : PlainSignature) (xs : List (List Mode × PlainNeutral)) (before one other : PlainState) → IsRun sig xs before one → IsRun sig xs before other → one ≡ other

-- Where a check may start before a run, it may start after it.
abbrev pub RunsKeepStarts : Type 0
RunsKeepStarts = (sig : PlainSignature) (xs : List (List Mode × PlainNeutral)) (before after : PlainState) → Starts sig before.context before.holding → IsRun sig xs before after
    → Starts sig after.context after.holding

-- The steps are a run, or one refusal says why they are none.
abbrev pub RunsAreDecided : Type 0
RunsAreDecided = (sig : PlainSignature) (xs : List (List Mode × PlainNeutral)) (before : PlainState) → Starts sig before.context before.holding
    → IsDecided ((after : PlainState) × IsRun sig xs before after) ((after : PlainState) → IsRun sig xs before after → ⊥) (RefusesRun sig xs before)
