-- What is asked of the whole is asked of the rest.
use Rattle.std.proofs.Common.{◌≡◌, ◌≤◌, ℕ, drop, map, min}
use Rattle.std.specs.List.{list_any}
use Rattle.clf_syntax.specs.declared.number.TheConstants.{BEYOND}
use Rattle.clf_syntax.specs.declared.tree.Expr.{out-Expr}
use Rattle.clf_syntax.specs.Plain.{plain_elim, plain_step, plain_entry, plain_expr}
use Rattle.clf_syntax.specs.Tree.{steps_on, done, tuple_of}
use Rattle.clf_syntax.specs.Occurs as spec
use Rattle.clf_syntax.specs.Spines.{occurs_elimination}
use Rattle.clf_syntax.proofs.occurs.+occurs.Given as goal

abbrev pub invariant-occurs_spine-loop-act : goal.invariant-occurs_spine-loop-act
invariant-occurs_spine-loop-act l = (v : ℕ) → min v BEYOND ≡ l.var → list_any (occurs_elimination v) (map plain_elim (drop l.act-index l.spine)) ≡ list_any (occurs_elimination v) (map plain_elim l.spine)

abbrev pub invariant-occurs_tuple-loop-entry : goal.invariant-occurs_tuple-loop-entry
invariant-occurs_tuple-loop-entry l = (v : ℕ) → min v BEYOND ≡ l.var → spec.occurs_tuple v (tuple_of (map plain_entry (drop l.entry-index l.tuple))) ≡ spec.occurs_tuple v (tuple_of (map plain_entry l.tuple))

abbrev pub invariant-occurs_expression-loop-step : goal.invariant-occurs_expression-loop-step
invariant-occurs_expression-loop-step l = record {
  within : l.inner ≤ BEYOND;
  same : (v : ℕ) → min v BEYOND ≡ l.var → (w : ℕ) × (min w BEYOND ≡ l.inner)
      × (spec.occurs_expression v (plain_expr l.expr) ≡ spec.occurs_expression w (steps_on (map plain_step (drop l.step-index l.step-items)) (done (tuple_of (map plain_entry (out-Expr l.expr).result)))));
}
