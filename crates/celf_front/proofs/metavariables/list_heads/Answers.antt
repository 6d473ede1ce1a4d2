use Rattle.celf_front.proofs.Listings.{lists_head}
use Rattle.celf_front.proofs.metavariables.list_heads.Goals as goal

pub loop-head-preserved : goal.loop-head-preserved
loop-head-preserved c = lists_head c.args.heads.now c.loop-head.head-index _ c.args.listed.now c.loop-head.listed c.list_head.new.listed c.loop-head-test.true c.loop-head.invariant c.in_ok-list_head.ensures
