use Rattle.std.proofs.Common.{arith}
use Rattle.gathering.specs.Setting.{simple_locals}
use Rattle.celf_gather.specs.Walks.{context_of, found_of}
use Rattle.celf_gather.proofs.Lists.{pairs_differ}
use Rattle.celf_gather.proofs.known.Known.pair_at.Goals as goal

pub returns-then-found-args-clause-outcome : goal.returns-then-found-args-clause-outcome
returns-then-found-args-clause-outcome c = pairs_differ (simple_locals (context_of c.args.walk.now)) c.args.args.now c.args.found.now c.args.wanted.now (found_of c.args.walk.now) (λ e f. grind (arith, c.if-found-args.true))

pub returns-then-wanted-args-clause-outcome : goal.returns-then-wanted-args-clause-outcome
returns-then-wanted-args-clause-outcome c = pairs_differ (simple_locals (context_of c.args.walk.now)) c.args.args.now c.args.found.now c.args.wanted.now (found_of c.args.walk.now) (λ e f. grind (arith, c.if-wanted-args.true))
