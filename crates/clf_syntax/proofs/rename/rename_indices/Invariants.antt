use Rattle.std.proofs.Common.{◌≡◌, ◌++◌, drop, map}
use Rattle.std.specs.List.{list_all}
use Rattle.clf_syntax.specs.Plain.{plain_obj}
use Rattle.clf_syntax.specs.Renamings.{renumbering_by}
use Rattle.clf_syntax.specs.Written.{fits}
use Rattle.clf_syntax.specs.Renumbered as spec
use Rattle.clf_syntax.proofs.rename.rename_indices.Given as goal

abbrev pub invariant-loop-index : goal.invariant-loop-index
invariant-loop-index l = record {
  shape : map plain_obj l.renamed ++ map (spec.renumber (renumbering_by l.names) l.depth) (map plain_obj (drop l.index-index l.indices)) ≡ map (spec.renumber (renumbering_by l.names) l.depth) (map plain_obj l.indices);
  fits : list_all fits (map (spec.renumber (renumbering_by l.names) l.depth) (map plain_obj l.indices)) ≡ list_all fits (map (spec.renumber (renumbering_by l.names) l.depth) (map plain_obj (drop l.index-index l.indices)));
}
