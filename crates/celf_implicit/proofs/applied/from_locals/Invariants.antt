-- The functions from the locals that have been gone through.
use Rattle.std.proofs.Common.{◌≡◌, ◌≤◌, map, drop, length}
use Rattle.std.specs.Prelude.{option_copied}
use Rattle.celf_places.specs.Locals.{plain_place}
use Rattle.celf_implicit.specs.Rounds.{from_locals}
use Rattle.celf_implicit.specs.Noting.{plain_applied}
use Rattle.celf_implicit.proofs.applied.from_locals.Given as goal

abbrev pub invariant-loop-left : goal.invariant-loop-left
invariant-loop-left l = record {
  within : l.left ≤ length l.locals;
  functions : plain_place l.simple ≡ from_locals (map plain_applied (drop l.left l.locals)) (plain_place (option_copied l.place));
}

abbrev pub decreases-loop-left : goal.decreases-loop-left
decreases-loop-left l = l.left
