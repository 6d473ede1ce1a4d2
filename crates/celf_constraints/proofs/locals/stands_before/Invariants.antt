use Rattle.std.proofs.Common.{ℕ, ◌<◌}
use Rattle.celf_constraints.specs.Ended.{StandsAt}
use Rattle.celf_constraints.proofs.locals.stands_before.Given as goal

abbrev pub invariant-loop-place : goal.invariant-loop-place
invariant-loop-place l = (i : ℕ) → i < l.place → StandsAt l.locals i l.local → ⊥
