use Rattle.std.proofs.Common.{sym, ◌∙◌}
use Rattle.use_contexts.specs.Context.{modes}
use Rattle.use_contexts.specs.Marks.{context, marks}
use Rattle.use_contexts.proofs.Lookups.{weak_stops, weak_goes_on}
use Rattle.use_contexts.proofs.holding.weak.Goals as goal

pub returns-then-is_held_linear : goal.returns-then-is_held_linear
returns-then-is_held_linear c =
    sym (c.loop-var.invariant ∙ weak_stops (modes (context c.args.ctx.now)) (marks c.args.holding.now) c.loop-var.var c.mode.result c.holds.result c.mode.ensures c.holds.ensures (sym c.is_held_linear.ensures ∙ c.if-is_held_linear.true))

pub loop-var-preserved : goal.loop-var-preserved
loop-var-preserved c =
    c.loop-var.invariant ∙ weak_goes_on (modes (context c.args.ctx.now)) (marks c.args.holding.now) c.loop-var.var c.mode.result c.holds.result c.mode.ensures c.holds.ensures (sym c.is_held_linear.ensures ∙ c.if-is_held_linear.false)
