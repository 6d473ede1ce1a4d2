-- None of the variables so far has the name.
use Rattle.std.proofs.Common.{◌≡◌, false, map, take}
use Rattle.celf_implicit.specs.Variables.{is_among}
use Rattle.celf_implicit.specs.Answers.{plain_implicit}
use Rattle.celf_implicit.proofs.heads.is_among.Given as goal

abbrev pub invariant-loop-variable : goal.invariant-loop-variable
invariant-loop-variable l = is_among (map plain_implicit (take l.variable-index l.found)) l.name ≡ false
