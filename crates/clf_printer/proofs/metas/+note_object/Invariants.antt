use Rattle.std.proofs.Common.{◌≡◌, drop, map}
use Rattle.clf_syntax.specs.declared.tree.Expr.{out-Expr}
use Rattle.clf_syntax.specs.Plain.{plain_elim, plain_step, plain_entry, plain_expr}
use Rattle.clf_syntax.specs.Tree.{steps_on, done, tuple_of}
use Rattle.clf_printer.specs.Metas.{appearing_spine, appearing_expression, appearing_tuple}
use Rattle.clf_printer.proofs.metas.+note_object.Given as goal

abbrev pub invariant-note_spine-loop-act : goal.invariant-note_spine-loop-act
invariant-note_spine-loop-act l = appearing_spine l.metas.items (map plain_elim (drop l.act-index l.spine)) ≡ appearing_spine l.fn.metas.items (map plain_elim l.spine)

abbrev pub invariant-note_tuple-loop-entry : goal.invariant-note_tuple-loop-entry
invariant-note_tuple-loop-entry l = appearing_tuple l.metas.items (tuple_of (map plain_entry (drop l.entry-index l.tuple))) ≡ appearing_tuple l.fn.metas.items (tuple_of (map plain_entry l.tuple))

abbrev pub invariant-note_expression-loop-step : goal.invariant-note_expression-loop-step
invariant-note_expression-loop-step l =
    appearing_expression l.metas.items (steps_on (map plain_step (drop l.step-index l.step-items)) (done (tuple_of (map plain_entry (out-Expr l.expr).result)))) ≡ appearing_expression l.fn.metas.items (plain_expr l.expr)
