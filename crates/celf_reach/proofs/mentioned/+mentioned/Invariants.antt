-- What is asked of the whole is asked of the rest.
use Rattle.std.proofs.Common.{◌≡◌, drop, map}
use Rattle.std.specs.List.{list_any}
use Rattle.clf_syntax.specs.declared.tree.Expr.{out-Expr}
use Rattle.clf_syntax.specs.Plain.{plain_elim, plain_step, plain_entry, plain_expr}
use Rattle.clf_syntax.specs.Tree.{steps_on, done, tuple_of}
use Rattle.celf_reach.specs.Mentioned.{mentions_some_elimination, mentions_some_expression, mentions_some_tuple}
use Rattle.celf_reach.proofs.mentioned.+mentioned.Given as goal

abbrev pub invariant-mentioned_in_spine-loop-act : goal.invariant-mentioned_in_spine-loop-act
invariant-mentioned_in_spine-loop-act l = list_any mentions_some_elimination (map plain_elim (drop l.act-index l.spine)) ≡ list_any mentions_some_elimination (map plain_elim l.spine)

abbrev pub invariant-mentioned_in_tuple-loop-entry : goal.invariant-mentioned_in_tuple-loop-entry
invariant-mentioned_in_tuple-loop-entry l = mentions_some_tuple (tuple_of (map plain_entry (drop l.entry-index l.tuple))) ≡ mentions_some_tuple (tuple_of (map plain_entry l.tuple))

abbrev pub invariant-mentioned_in_expression-loop-step : goal.invariant-mentioned_in_expression-loop-step
invariant-mentioned_in_expression-loop-step l = mentions_some_expression (plain_expr l.expr) ≡ mentions_some_expression (steps_on (map plain_step (drop l.step-index l.step-items)) (done (tuple_of (map plain_entry (out-Expr l.expr).result))))
