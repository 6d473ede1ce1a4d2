-- What is wanted of the whole is what is done and what is wanted of the rest.
use Rattle.std.proofs.Common.{◌≡◌, ◌++◌, drop, map}
use Rattle.std.specs.List.{list_all}
use Rattle.clf_syntax.specs.declared.tree.Expr.{out-Expr}
use Rattle.clf_syntax.specs.Plain.{plain_elim, plain_step, plain_entry, plain_expr}
use Rattle.clf_syntax.specs.Tree.{steps_on, done, tuple_of}
use Rattle.clf_syntax.specs.Renamings.{renumbering_by}
use Rattle.clf_syntax.specs.Written.{fits_expression}
use Rattle.clf_syntax.specs.Renumbered as spec
use Rattle.clf_syntax.proofs.rename.+rename.Given as goal

abbrev pub invariant-rename_spine-loop-act : goal.invariant-rename_spine-loop-act
invariant-rename_spine-loop-act l = record {
  shape : map plain_elim l.renamed ++ map (spec.renumber_elimination (renumbering_by l.names) l.depth) (map plain_elim (drop l.act-index l.spine)) ≡ map (spec.renumber_elimination (renumbering_by l.names) l.depth) (map plain_elim l.spine);
  fits : list_all spec.fits_elimination (map (spec.renumber_elimination (renumbering_by l.names) l.depth) (map plain_elim l.spine)) ≡ list_all spec.fits_elimination (map (spec.renumber_elimination (renumbering_by l.names) l.depth) (map plain_elim (drop l.act-index l.spine)));
}

abbrev pub invariant-rename_tuple-loop-entry : goal.invariant-rename_tuple-loop-entry
invariant-rename_tuple-loop-entry l = record {
  shape : map plain_entry l.renamed ++ map (spec.renumber_entry (renumbering_by l.names) l.depth) (map plain_entry (drop l.entry-index l.tuple)) ≡ map (spec.renumber_entry (renumbering_by l.names) l.depth) (map plain_entry l.tuple);
  fits : list_all spec.fits_entry (map (spec.renumber_entry (renumbering_by l.names) l.depth) (map plain_entry l.tuple)) ≡ list_all spec.fits_entry (map (spec.renumber_entry (renumbering_by l.names) l.depth) (map plain_entry (drop l.entry-index l.tuple)));
}

abbrev pub invariant-rename_expression-loop-step : goal.invariant-rename_expression-loop-step
invariant-rename_expression-loop-step l = record {
  shape : spec.renumber_expression (renumbering_by l.names) l.depth (plain_expr l.expr) ≡ steps_on (map plain_step l.steps) (spec.renumber_expression (renumbering_by l.names) l.inner (steps_on (map plain_step (drop l.step-index l.step-items)) (done (tuple_of (map plain_entry (out-Expr l.expr).result)))));
  fits : fits_expression (spec.renumber_expression (renumbering_by l.names) l.depth (plain_expr l.expr)) ≡ fits_expression (spec.renumber_expression (renumbering_by l.names) l.inner (steps_on (map plain_step (drop l.step-index l.step-items)) (done (tuple_of (map plain_entry (out-Expr l.expr).result)))));
}
