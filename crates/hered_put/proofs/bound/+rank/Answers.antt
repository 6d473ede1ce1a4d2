use Rattle.std.proofs.Common.{arith, ◌<◌, length}
use Rattle.hered_put.proofs.Ranks.{ranks-next}
use Rattle.hered_put.proofs.bound.+rank.Goals as goal

pub entries_rank-loop-entry-preserved : goal.entries_rank-loop-entry-preserved
entries_rank-loop-entry-preserved t c =
    let lt : c.loop-entry.entry-index < length c.args.entries.now = omega arith in
    omega (arith, ranks-next c.loop-entry.entry-index c.entry-item.result c.args.entries.now lt c.entry-item.is, c.loop-entry.invariant, c.in_ok-type_rank.ensures, c.in_ok-all.ensures)
