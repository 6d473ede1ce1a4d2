-- What appeared, with what is still to be looked at, is what appears in all.
use Rattle.std.proofs.Common.{◌≡◌, drop, map}
use Rattle.clf_syntax.specs.PlainTypes.{plain_ty}
use Rattle.clf_sig.specs.Core.{plain_core}
use Rattle.clf_printer.specs.Metas.{appearing_kind}
use Rattle.celf_reconstruct.specs.Left.{metavariables_with}
use Rattle.celf_reconstruct.proofs.left.metavariables.Given as goal

abbrev pub invariant-loop-ty : goal.invariant-loop-ty
invariant-loop-ty l = appearing_kind l.metas.items (map plain_ty (drop l.ty-index l.types)) ≡ metavariables_with (plain_core l.core) (map plain_ty l.types)
