-- The tables tell the front of the list that they told.
use Rattle.std.proofs.Common.{length}
use Rattle.metavars.proofs.TablesLaws.{IsFront}
use Rattle.metavars.proofs.tables.Tables.cut.Given as goal

abbrev pub invariant-loop-self : goal.invariant-loop-self
invariant-loop-self l = IsFront l.count l.fn.self l.self

abbrev pub decreases-loop-self : goal.decreases-loop-self
decreases-loop-self l = length l.self.added
