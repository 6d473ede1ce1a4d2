use Rattle.std.proofs.Common.{◌≡◌, drop, map}
use Rattle.clf_syntax.specs.Plain.{plain_obj}
use Rattle.clf_printer.specs.Metas.{appearing_indices}
use Rattle.clf_printer.proofs.metas.note_indices.Given as goal

abbrev pub invariant-loop-index : goal.invariant-loop-index
invariant-loop-index l = appearing_indices l.metas.items (map plain_obj (drop l.index-index l.indices)) ≡ appearing_indices l.fn.metas.items (map plain_obj l.indices)
