-- The variables that are left have the simple type that all have.
use Rattle.std.proofs.Common.{◌≡◌, map, drop}
use Rattle.celf_implicit.specs.Variables.{variable_place}
use Rattle.celf_implicit.specs.Answers.{plain_implicit}
use Rattle.celf_implicit.proofs.heads.variable_place.Given as goal

abbrev pub invariant-loop-variable : goal.invariant-loop-variable
invariant-loop-variable l = variable_place (map plain_implicit (drop l.variable-index l.found)) l.name ≡ variable_place (map plain_implicit l.found) l.name
