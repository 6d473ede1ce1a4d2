-- What is copied, with what is still to be copied, is the whole.
use Rattle.std.proofs.Common.{◌≡◌, ◌++◌, drop, map}
use Rattle.clf_syntax.specs.PlainSimple.{plain_simple}
use Rattle.clf_sig.specs.Entry.{simple_types}
use Rattle.clf_sig.specs.Signature.{plain_signature}
use Rattle.celf_implicit.specs.Answers.{plain_implicit}
use Rattle.celf_reconstruct.specs.Known.{simple_or_unit}
use Rattle.celf_reconstruct.proofs.read.simples_of.Given as goal

abbrev pub invariant-loop-variable : goal.invariant-loop-variable
invariant-loop-variable l =
    map plain_simple l.simples ++ map simple_or_unit (map plain_implicit (drop l.variable-index l.variables))
    ≡ simple_types (plain_signature l.sig) ++ map simple_or_unit (map plain_implicit l.variables)
