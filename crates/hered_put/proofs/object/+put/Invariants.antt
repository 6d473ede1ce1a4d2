-- What is wanted of the whole is what is done and what is wanted of the rest. A part has more to do than its own parts.
use Rattle.std.proofs.Common.{◌≡◌, drop, length, map}
use Rattle.clf_syntax.specs.declared.tree.Expr.{out-Expr}
use Rattle.clf_syntax.specs.Tree.{steps_on, done, tuple_of}
use Rattle.clf_syntax.specs.Plain.{plain_neutral, plain_elim, plain_expr, plain_step, plain_entry}
use Rattle.hered_put.specs.Function.{made}
use Rattle.hered_put.specs.Environments.{environment_of}
use Rattle.hered_put.specs.Outcomes.{plain_outcome, plain_coming, plain_rest}
use Rattle.hered_put.specs.Pieces.{neutral_of, expression_of, entries_of, in_front, join_all, joined_of}
use Rattle.hered_put.proofs.Measure.{left}
use Rattle.hered_put.proofs.SpinePieces.{spined}
use Rattle.hered_put.proofs.object.+put.Given as goal

abbrev pub decreases-put_object : goal.decreases-put_object
decreases-put_object l = left l.bound 0

abbrev pub decreases-put_entry : goal.decreases-put_entry
decreases-put_entry l = left l.bound 1

abbrev pub decreases-apply_value : goal.decreases-apply_value
decreases-apply_value l = left l.bound 0

abbrev pub decreases-apply : goal.decreases-apply
decreases-apply l = left l.bound 1

abbrev pub decreases-put_tuple : goal.decreases-put_tuple
decreases-put_tuple l = left l.bound 2

abbrev pub decreases-eliminate : goal.decreases-eliminate
decreases-eliminate l = left l.bound 2

abbrev pub decreases-flatten : goal.decreases-flatten
decreases-flatten l = left l.bound 2

abbrev pub decreases-put_neutral : goal.decreases-put_neutral
decreases-put_neutral l = left l.bound 3

abbrev pub decreases-join : goal.decreases-join
decreases-join l = left l.bound 3

abbrev pub decreases-put_step : goal.decreases-put_step
decreases-put_step l = left l.bound 4

abbrev pub decreases-joined : goal.decreases-joined
decreases-joined l = left l.bound 4

abbrev pub decreases-put_expression : goal.decreases-put_expression
decreases-put_expression l = left l.bound 5

abbrev pub decreases-joined-loop-step : goal.decreases-joined-loop-step
decreases-joined-loop-step l = length l.steps

abbrev pub invariant-joined-loop-step : goal.invariant-joined-loop-step
invariant-joined-loop-step l = joined_of l.bound.rank (map plain_coming l.fn.steps) (plain_rest l.fn.rest) ≡ join_all l.bound.rank (map plain_coming l.steps) (made (plain_rest l.rest))

abbrev pub invariant-put_neutral-loop-act : goal.invariant-put_neutral-loop-act
invariant-put_neutral-loop-act l = neutral_of l.bound.rank (environment_of l.environment) (plain_neutral l.neutral)
    ≡ spined l.bound.rank (environment_of l.environment) (map plain_elim (drop l.act-index l.act-items)) (made (plain_outcome l.outcome))

abbrev pub invariant-put_tuple-loop-entry : goal.invariant-put_tuple-loop-entry
invariant-put_tuple-loop-entry l = entries_of l.bound.rank (environment_of l.environment) (map plain_entry l.tuple)
    ≡ in_front (map plain_entry l.entries) (entries_of l.bound.rank (environment_of l.environment) (map plain_entry (drop l.entry-index l.tuple)))

abbrev pub invariant-put_expression-loop-step : goal.invariant-put_expression-loop-step
invariant-put_expression-loop-step l = expression_of l.bound.rank (environment_of l.environment) (plain_expr l.expr)
    ≡ join_all l.bound.rank (map plain_coming l.steps) (expression_of l.bound.rank (environment_of l.inner) (steps_on (map plain_step (drop l.step-index l.step-items)) (done (tuple_of (map plain_entry (out-Expr l.expr).result)))))
