use Rattle.std.proofs.Common.{ℕ, ◌≡◌, length, true}
use Rattle.pattern_laws.specs.Patterns.{mask_at}
use Rattle.celf_constraints.specs.Ended.{EndsIn}
use Rattle.celf_constraints.proofs.Growing.{unheld}
use Rattle.celf_constraints.proofs.ways.grow.Given as goal

abbrev pub invariant-loop-place : goal.invariant-loop-place
invariant-loop-place l = record {
  lengths : length l.held.items ≡ length l.from;
  ended : (j : ℕ) → mask_at l.held.items j ≡ true → EndsIn l.from l.to j;
}

abbrev pub decreases-loop-place : goal.decreases-loop-place
decreases-loop-place l = unheld l.held.items
