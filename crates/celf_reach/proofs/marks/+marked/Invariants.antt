-- What is asked of the whole is asked of the rest.
use Rattle.std.proofs.Common.{◌≡◌, drop, map}
use Rattle.std.specs.List.{list_any}
use Rattle.clf_syntax.specs.declared.tree.Expr.{out-Expr}
use Rattle.clf_syntax.specs.Plain.{plain_elim, plain_step, plain_entry, plain_expr}
use Rattle.clf_syntax.specs.Tree.{steps_on, done, tuple_of}
use Rattle.reach_walk.specs.Marks as spec
use Rattle.celf_reach.proofs.marks.+marked.Given as goal

abbrev pub invariant-marked_in_spine-loop-act : goal.invariant-marked_in_spine-loop-act
invariant-marked_in_spine-loop-act l = list_any (spec.marked_in_elimination l.marks l.depth) (map plain_elim (drop l.act-index l.spine)) ≡ list_any (spec.marked_in_elimination l.marks l.depth) (map plain_elim l.spine)

abbrev pub invariant-marked_in_tuple-loop-entry : goal.invariant-marked_in_tuple-loop-entry
invariant-marked_in_tuple-loop-entry l = spec.marked_in_tuple l.marks l.depth (tuple_of (map plain_entry (drop l.entry-index l.tuple))) ≡ spec.marked_in_tuple l.marks l.depth (tuple_of (map plain_entry l.tuple))

abbrev pub invariant-marked_in_expression-loop-step : goal.invariant-marked_in_expression-loop-step
invariant-marked_in_expression-loop-step l = spec.marked_in_expression l.marks l.depth (plain_expr l.expr)
    ≡ spec.marked_in_expression l.marks l.inner (steps_on (map plain_step (drop l.step-index l.step-items)) (done (tuple_of (map plain_entry (out-Expr l.expr).result))))
