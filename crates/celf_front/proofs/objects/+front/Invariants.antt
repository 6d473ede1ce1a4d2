-- What is wanted of the whole is what is done and what is wanted of the rest.
use Rattle.std.proofs.Common.{◌≡◌, ◌++◌, drop, map}
use Rattle.clf_syntax.specs.declared.tree.Expr.{out-Expr}
use Rattle.clf_syntax.specs.Plain.{plain_elim, plain_step, plain_entry, plain_expr}
use Rattle.clf_syntax.specs.Tree.{steps_on, done, tuple_of}
use Rattle.celf_front.specs.FrontHeads.{heads_by}
use Rattle.celf_front.specs.Replaced as spec
use Rattle.celf_front.proofs.objects.+front.Given as goal

abbrev pub invariant-front_spine-loop-act : goal.invariant-front_spine-loop-act
invariant-front_spine-loop-act l = map plain_elim l.placed ++ map (spec.replaced_elimination (heads_by l.front) l.depth) (map plain_elim (drop l.act-index l.spine)) ≡ map (spec.replaced_elimination (heads_by l.front) l.depth) (map plain_elim l.spine)

abbrev pub invariant-front_tuple-loop-entry : goal.invariant-front_tuple-loop-entry
invariant-front_tuple-loop-entry l = map plain_entry l.placed ++ map (spec.replaced_entry (heads_by l.front) l.depth) (map plain_entry (drop l.entry-index l.tuple)) ≡ map (spec.replaced_entry (heads_by l.front) l.depth) (map plain_entry l.tuple)

abbrev pub invariant-front_expression-loop-step : goal.invariant-front_expression-loop-step
invariant-front_expression-loop-step l = spec.replaced_expression (heads_by l.front) l.depth (plain_expr l.expr) ≡ steps_on (map plain_step l.steps) (spec.replaced_expression (heads_by l.front) l.inner (steps_on (map plain_step (drop l.step-index l.step-items)) (done (tuple_of (map plain_entry (out-Expr l.expr).result)))))
