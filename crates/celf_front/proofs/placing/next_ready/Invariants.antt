use Rattle.std.proofs.Common.{◌<◌, ℕ}
use Rattle.celf_elaboration.specs.Binders.{IsUnplaced, IsReady}
use Rattle.celf_front.specs.Needs.{mentions}
use Rattle.celf_front.proofs.placing.next_ready.Given as goal

abbrev pub invariant-loop-binder : goal.invariant-loop-binder
invariant-loop-binder l = (k : ℕ) → k < l.binder → IsUnplaced l.count (mentions l.needs) l.placed.numbers k → IsReady l.count (mentions l.needs) l.placed.numbers k → ⊥
