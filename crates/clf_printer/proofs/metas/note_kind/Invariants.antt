use Rattle.std.proofs.Common.{◌≡◌, drop, map}
use Rattle.clf_syntax.specs.PlainTypes.{plain_ty}
use Rattle.clf_printer.specs.Metas.{appearing_kind}
use Rattle.clf_printer.proofs.metas.note_kind.Given as goal

abbrev pub invariant-loop-arg : goal.invariant-loop-arg
invariant-loop-arg l = appearing_kind l.metas.items (map plain_ty (drop l.arg-index l.args)) ≡ appearing_kind l.fn.metas.items (map plain_ty l.args)
