use Rattle.std.proofs.Common.{below_more, sym, ◌∙◌}
use Rattle.celf_front.proofs.placing.first_unplaced.Goals as goal

pub loop-binder-preserved : goal.loop-binder-preserved
loop-binder-preserved c = below_more _ _ c.loop-binder.invariant (c.requires.came c.loop-binder.binder (sym c.has.ensures ∙ c.if-not-has.false))
