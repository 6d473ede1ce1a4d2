use Rattle.std.proofs.Common.{ℕ, ◌<◌, ◌≡◌}
use Rattle.celf_constraints.specs.Ended.{StandsAt}
use Rattle.celf_constraints.proofs.locals.are_distinct.Given as goal

abbrev pub invariant-loop-place : goal.invariant-loop-place
invariant-loop-place l = (i j v : ℕ) → i < l.place → j < l.place → StandsAt l.locals i v → StandsAt l.locals j v → i ≡ j
