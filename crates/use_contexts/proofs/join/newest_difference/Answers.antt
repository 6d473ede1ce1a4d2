use Rattle.std.proofs.Common.{sym, ◌∙◌}
use Rattle.use_contexts.specs.Context.{modes}
use Rattle.use_contexts.specs.Marks.{context, marks}
use Rattle.use_contexts.proofs.Lookups.{difference_here, difference_later}
use Rattle.use_contexts.proofs.join.newest_difference.Goals as goal

pub returns-then-differs : goal.returns-then-differs
returns-then-differs c =
    sym (c.loop-var.invariant ∙ difference_here c.args.first.now.slack c.args.second.now.slack (modes (context c.args.ctx.now)) (marks c.args.first.now.row) (marks c.args.second.now.row) c.loop-var.var
    c.mode.result c.holds-left_first.result c.holds-left_second.result c.mode.ensures c.holds-left_first.ensures c.holds-left_second.ensures (sym c.differs.ensures ∙ c.if-differs.true))

pub loop-var-preserved : goal.loop-var-preserved
loop-var-preserved c =
    c.loop-var.invariant ∙ difference_later c.args.first.now.slack c.args.second.now.slack (modes (context c.args.ctx.now)) (marks c.args.first.now.row) (marks c.args.second.now.row) c.loop-var.var
    c.mode.result c.holds-left_first.result c.holds-left_second.result c.mode.ensures c.holds-left_first.ensures c.holds-left_second.ensures (sym c.differs.ensures ∙ c.if-differs.false)
