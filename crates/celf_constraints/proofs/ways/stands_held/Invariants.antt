use Rattle.std.proofs.Common.{ℕ, ◌<◌, ◌≡◌, true}
use Rattle.pattern_laws.specs.Patterns.{mask_at}
use Rattle.celf_constraints.specs.Ended.{StandsAt}
use Rattle.celf_constraints.proofs.ways.stands_held.Given as goal

abbrev pub invariant-loop-place : goal.invariant-loop-place
invariant-loop-place l = (i : ℕ) → i < l.place → StandsAt l.to i l.local → mask_at l.held i ≡ true → ⊥
