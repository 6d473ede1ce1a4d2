use Rattle.std.proofs.Common.{◌<◌, length, arith, below_more}
use Rattle.clf_syntax.proofs.OccursLaws.{not_both}
use Rattle.celf_constraints.proofs.Growing.{stands_within}
use Rattle.celf_constraints.proofs.ways.next_end.Goals as goal

pub returns-then-is_open : goal.returns-then-is_open
returns-then-is_open c = c.is_open.ensures.0 c.if-is_open.true

pub loop-place-preserved : goal.loop-place-preserved
loop-place-preserved c = below_more _ _ c.loop-place.invariant (λ o. not_both (c.is_open.ensures.1 o) c.if-is_open.false)

pub returns : goal.returns
returns c j o = let lt : j < length c.args.from.now = stands_within c.args.from.now j o.local o.stands in c.loop-place.invariant j (omega (arith, lt)) o
