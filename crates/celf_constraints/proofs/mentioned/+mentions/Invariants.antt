-- What is asked of the whole is asked of the rest.
use Rattle.std.proofs.Common.{◌≡◌, drop, map}
use Rattle.std.specs.List.{list_any}
use Rattle.clf_syntax.specs.declared.tree.Expr.{out-Expr}
use Rattle.clf_syntax.specs.Plain.{plain_elim, plain_step, plain_entry, plain_expr}
use Rattle.clf_syntax.specs.Tree.{steps_on, done, tuple_of}
use Rattle.store_laws.specs.Mentions as spec
use Rattle.celf_constraints.specs.Parts.{mentions_elimination}
use Rattle.celf_constraints.proofs.mentioned.+mentions.Given as goal

abbrev pub invariant-mentions_spine-loop-act : goal.invariant-mentions_spine-loop-act
invariant-mentions_spine-loop-act l = list_any (mentions_elimination l.meta) (map plain_elim (drop l.act-index l.spine)) ≡ list_any (mentions_elimination l.meta) (map plain_elim l.spine)

abbrev pub invariant-mentions_tuple-loop-entry : goal.invariant-mentions_tuple-loop-entry
invariant-mentions_tuple-loop-entry l = spec.mentions_tuple l.meta (tuple_of (map plain_entry (drop l.entry-index l.tuple))) ≡ spec.mentions_tuple l.meta (tuple_of (map plain_entry l.tuple))

abbrev pub invariant-mentions_expression-loop-step : goal.invariant-mentions_expression-loop-step
invariant-mentions_expression-loop-step l = spec.mentions_expression l.meta (plain_expr l.expr) ≡ spec.mentions_expression l.meta (steps_on (map plain_step (drop l.step-index l.step-items)) (done (tuple_of (map plain_entry (out-Expr l.expr).result))))
