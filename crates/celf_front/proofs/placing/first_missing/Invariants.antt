use Rattle.std.proofs.Common.{◌≡◌, ◌<◌, ℕ, true}
use Rattle.std.specs.List.{Contains}
use Rattle.celf_front.specs.Needs.{mentions}
use Rattle.celf_front.proofs.placing.first_missing.Given as goal

abbrev pub invariant-loop-other : goal.invariant-loop-other
invariant-loop-other l = (k : ℕ) → k < l.other → mentions l.needs l.binder k ≡ true → Contains l.placed.numbers k
