-- Whether those that are left are distinct decides.
use Rattle.std.proofs.Common.{◌≡◌, map, length}
use Rattle.celf_implicit.specs.Occurrences.{are_distinct}
use Rattle.celf_implicit.specs.Noting.{plain_applied}
use Rattle.celf_implicit.proofs.applied.are_distinct.Given as goal

abbrev pub invariant-loop-left : goal.invariant-loop-left
invariant-loop-left l = are_distinct (map plain_applied l.left) ≡ are_distinct (map plain_applied l.locals)

abbrev pub decreases-loop-left : goal.decreases-loop-left
decreases-loop-left l = length l.left
