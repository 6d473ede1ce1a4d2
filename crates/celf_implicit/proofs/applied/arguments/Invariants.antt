-- The arguments are those of the locals so far.
use Rattle.std.proofs.Common.{◌≡◌, map, take}
use Rattle.celf_implicit.specs.Rounds.{argument_of}
use Rattle.celf_implicit.specs.Noting.{plain_applied}
use Rattle.celf_implicit.proofs.applied.arguments.Given as goal

abbrev pub invariant-loop-local : goal.invariant-loop-local
invariant-loop-local l = l.arguments ≡ map argument_of (map plain_applied (take l.local-index l.locals))
