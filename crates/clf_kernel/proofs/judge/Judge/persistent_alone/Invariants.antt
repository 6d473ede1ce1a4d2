-- The marks of the entries from the oldest on, as far as the loop has come.
use Rattle.std.proofs.Common.{◌≡◌, ◌≤◌, reverse, drop, length}
use Rattle.use_contexts.specs.Context.{modes}
use Rattle.use_contexts.specs.Holding.{persistent_alone}
use Rattle.clf_kernel.specs.Judge.{context_of}
use Rattle.clf_kernel.proofs.judge.Judge.persistent_alone.Given as goal

abbrev pub invariant-loop-var : goal.invariant-loop-var
invariant-loop-var l = (l.var ≤ length (context_of l.self)) × (reverse l.held ≡ persistent_alone (drop l.var (modes (context_of l.self))))

abbrev pub decreases-loop-var : goal.decreases-loop-var
decreases-loop-var l = l.var
