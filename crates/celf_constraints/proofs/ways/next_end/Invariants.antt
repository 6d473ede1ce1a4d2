use Rattle.std.proofs.Common.{ℕ, ◌<◌}
use Rattle.celf_constraints.specs.Ended.{IsOpen}
use Rattle.celf_constraints.proofs.ways.next_end.Given as goal

abbrev pub invariant-loop-place : goal.invariant-loop-place
invariant-loop-place l = (j : ℕ) → j < l.place → IsOpen l.from l.to l.held j → ⊥
