use Rattle.std.proofs.Common.{◌<◌, ℕ}
use Rattle.std.specs.List.{Contains}
use Rattle.celf_front.proofs.placing.first_unplaced.Given as goal

abbrev pub invariant-loop-binder : goal.invariant-loop-binder
invariant-loop-binder l = (k : ℕ) → k < l.binder → Contains l.placed.numbers k
