-- The older entries are kept.
use Rattle.std.proofs.Common.{◌≡◌, length, take}
use Rattle.celf_gather.specs.Walks.{entries_of}
use Rattle.celf_gather.proofs.walk.Walk.leave_to.Given as goal

abbrev pub invariant-loop-self : goal.invariant-loop-self
invariant-loop-self l = (take l.fn.len (entries_of l.self) ≡ take l.fn.len (entries_of l.fn.self)) × (l.self.found ≡ l.fn.self.found)

abbrev pub decreases-loop-self : goal.decreases-loop-self
decreases-loop-self l = length (entries_of l.self)
