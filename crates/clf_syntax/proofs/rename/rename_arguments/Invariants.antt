use Rattle.std.proofs.Common.{◌≡◌, ◌++◌, drop, map}
use Rattle.clf_syntax.specs.PlainTypes.{plain_ty}
use Rattle.clf_syntax.specs.Renamings.{renumbering_by}
use Rattle.clf_syntax.specs.Written.{fits_kind}
use Rattle.clf_syntax.specs.Renumbered as spec
use Rattle.clf_syntax.proofs.rename.rename_arguments.Given as goal

abbrev pub invariant-loop-arg : goal.invariant-loop-arg
invariant-loop-arg l = record {
  shape : map plain_ty l.renamed ++ spec.renumber_kind (renumbering_by l.names) l.inner (map plain_ty (drop l.arg-index l.args)) ≡ spec.renumber_kind (renumbering_by l.names) l.depth (map plain_ty l.args);
  fits : fits_kind (spec.renumber_kind (renumbering_by l.names) l.depth (map plain_ty l.args)) ≡ fits_kind (spec.renumber_kind (renumbering_by l.names) l.inner (map plain_ty (drop l.arg-index l.args)));
}
