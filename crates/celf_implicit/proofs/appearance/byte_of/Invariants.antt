-- Among those that are left the variable has the byte that it has among all.
use Rattle.std.proofs.Common.{◌≡◌, map, drop}
use Rattle.celf_implicit.specs.Answers.{plain_implicit}
use Rattle.celf_implicit.specs.FirstBytes.{byte_in}
use Rattle.celf_implicit.proofs.appearance.byte_of.Given as goal

abbrev pub invariant-loop-variable : goal.invariant-loop-variable
invariant-loop-variable l = byte_in (map plain_implicit (drop l.variable-index l.appeared)) l.name ≡ byte_in (map plain_implicit l.appeared) l.name
