-- The names that are to be kept are still there.
use Rattle.std.proofs.Common.{◌≡◌, take, length}
use Rattle.celf_names.proofs.scope.Scope.keep.Given as goal

abbrev pub invariant-loop-self : goal.invariant-loop-self
invariant-loop-self l = take l.count l.self-inside.names ≡ take l.count l.initial.self-inside.names

abbrev pub decreases-loop-self : goal.decreases-loop-self
decreases-loop-self l = length l.self-inside.names
