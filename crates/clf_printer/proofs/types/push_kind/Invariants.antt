use Rattle.std.proofs.Common.{◌≡◌, ◌++◌, length, map}
use Rattle.clf_syntax.specs.PlainTypes.{plain_ty}
use Rattle.clf_sig.specs.Signature.{plain_signature}
use Rattle.clf_printer.specs.Text.{kind_text}
use Rattle.clf_printer.proofs.types.push_kind.Given as goal

abbrev pub invariant-loop-rest : goal.invariant-loop-rest
invariant-loop-rest l = l.out.items ++ kind_text (plain_signature l.sig) l.metas l.level (map plain_ty l.rest) ≡ l.fn.out.items ++ kind_text (plain_signature l.sig) l.metas 0 (map plain_ty l.args)

abbrev pub decreases-loop-rest : goal.decreases-loop-rest
decreases-loop-rest l = length l.rest
