-- What is listed, with what is still to be listed, is the whole.
use Rattle.std.proofs.Common.{◌≡◌, ◌++◌, drop, map}
use Rattle.clf_syntax.specs.PlainSimple.{plain_simple}
use Rattle.celf_implicit.specs.Answers.{plain_implicit}
use Rattle.celf_reconstruct.specs.Known.{simple_or_unit}
use Rattle.celf_reconstruct.proofs.read.own_simples.Given as goal

abbrev pub invariant-loop-variable : goal.invariant-loop-variable
invariant-loop-variable l =
    map plain_simple l.own ++ map simple_or_unit (map plain_implicit (drop l.variable-index l.variables)) ≡ map simple_or_unit (map plain_implicit l.variables)
