use Rattle.std.proofs.Common.{◌≡◌, ◌++◌, drop, map}
use Rattle.clf_syntax.specs.Plain.{plain_obj}
use Rattle.clf_sig.specs.Signature.{plain_signature}
use Rattle.clf_printer.specs.Text.{indices_text}
use Rattle.clf_printer.proofs.types.push_indices.Given as goal

abbrev pub invariant-loop-index : goal.invariant-loop-index
invariant-loop-index l =
    l.out.items ++ indices_text (plain_signature l.sig) l.metas l.level (map plain_obj (drop l.index-index l.indices)) ≡ l.fn.out.items ++ indices_text (plain_signature l.sig) l.metas l.level (map plain_obj l.indices)
