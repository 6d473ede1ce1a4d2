-- What is done of a list is what becomes of its front; an expression is done from its end. A part has more to do than its own parts.
use Rattle.std.proofs.Common.{◌≤◌, drop, take, length, map}
use Rattle.clf_syntax.specs.declared.tree.Expr.{out-Expr}
use Rattle.clf_syntax.specs.Tree.{head_alone, spine_on, steps_on, done, tuple_of}
use Rattle.clf_syntax.specs.Plain.{plain_elim, plain_step, plain_entry}
use Rattle.metavars.specs.Becoming as becoming
use Rattle.metavars.specs.Outcomes.{BecomesOutcome}
use Rattle.hered_put.specs.Outcomes.{plain_rest}
use Rattle.metavars.proofs.Measure.{left}
use Rattle.metavars.proofs.instantiate.+put.Given as goal

abbrev pub decreases-put_object : goal.decreases-put_object
decreases-put_object l = left l.looking.now 0

abbrev pub decreases-put_entry : goal.decreases-put_entry
decreases-put_entry l = left l.looking.now 1

abbrev pub decreases-put_meta : goal.decreases-put_meta
decreases-put_meta l = left l.looking.now 1

abbrev pub decreases-put_head : goal.decreases-put_head
decreases-put_head l = left l.looking.now 2

abbrev pub decreases-put_tuple : goal.decreases-put_tuple
decreases-put_tuple l = left l.looking.now 2

abbrev pub decreases-eliminate : goal.decreases-eliminate
decreases-eliminate l = left l.looking.now 2

abbrev pub decreases-put_neutral : goal.decreases-put_neutral
decreases-put_neutral l = left l.looking.now 3

abbrev pub decreases-put_step : goal.decreases-put_step
decreases-put_step l = left l.looking.now 4

abbrev pub decreases-put_expression : goal.decreases-put_expression
decreases-put_expression l = left l.looking.now 5

abbrev pub invariant-put_neutral-loop-act : goal.invariant-put_neutral-loop-act
invariant-put_neutral-loop-act l = BecomesOutcome l.looking.store.now (spine_on (map plain_elim (take l.act-index l.act-items)) (head_alone l.neutral.head)) l.outcome

abbrev pub invariant-put_tuple-loop-entry : goal.invariant-put_tuple-loop-entry
invariant-put_tuple-loop-entry l = becoming.Each (becoming.Entry l.looking.store.now) (map plain_entry (take l.entry-index l.tuple)) (map plain_entry l.entries)

abbrev pub invariant-put_expression-loop-left : goal.invariant-put_expression-loop-left
invariant-put_expression-loop-left l = (l.left ≤ length l.steps) × becoming.Expression l.looking.store.now (steps_on (map plain_step (drop l.left l.steps)) (done (tuple_of (map plain_entry (out-Expr l.expr).result)))) (plain_rest l.rest)

abbrev pub decreases-put_expression-loop-left : goal.decreases-put_expression-loop-left
decreases-put_expression-loop-left l = l.left
