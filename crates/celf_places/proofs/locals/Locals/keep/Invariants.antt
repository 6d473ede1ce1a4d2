-- The binders that are to be kept are still there.
use Rattle.std.proofs.Common.{◌≡◌, take, length}
use Rattle.celf_places.proofs.locals.Locals.keep.Given as goal

abbrev pub invariant-loop-self : goal.invariant-loop-self
invariant-loop-self l = take l.count l.self-inside.locals ≡ take l.count l.initial.self-inside.locals

abbrev pub decreases-loop-self : goal.decreases-loop-self
decreases-loop-self l = length l.self-inside.locals
