-- None of the locals so far has the number.
use Rattle.std.proofs.Common.{◌≡◌, false, map, take}
use Rattle.std.specs.List.{list_any}
use Rattle.celf_implicit.specs.Occurrences.{has_number}
use Rattle.celf_implicit.specs.Noting.{plain_applied}
use Rattle.celf_implicit.proofs.applied.any_has_number.Given as goal

abbrev pub invariant-loop-local : goal.invariant-loop-local
invariant-loop-local l = list_any (has_number l.number) (map plain_applied (take l.local-index l.locals)) ≡ false
