-- From the newest entry on, the entries so far are no hindrance.
use Rattle.std.proofs.Common.{◌≡◌, drop}
use Rattle.use_contexts.specs.Context.{modes}
use Rattle.use_contexts.specs.Holding.{is_weak}
use Rattle.use_contexts.specs.Marks.{context, marks}
use Rattle.use_contexts.proofs.holding.weak.Given as goal

abbrev pub invariant-loop-var : goal.invariant-loop-var
invariant-loop-var l = is_weak (modes (context l.ctx)) (marks l.holding) ≡ is_weak (drop l.var (modes (context l.ctx))) (drop l.var (marks l.holding))
