use Rattle.std.proofs.Common.{◌∙◌}
use Rattle.use_contexts.specs.Context.{modes}
use Rattle.use_contexts.specs.Marks.{context, marks}
use Rattle.use_contexts.proofs.Lookups.{taken_by_mode}
use Rattle.use_contexts.proofs.holding.take.Goals as goal

pub returns-clause-used : goal.returns-clause-used
returns-clause-used c = c.use_up.ensures ∙ taken_by_mode (modes (context c.args.ctx.now)) c.args.var (marks c.args.holding.now) c.mode.result c.mode.ensures
