-- The older entries are kept.
use Rattle.std.proofs.Common.{◌≡◌, length}
use Rattle.clf_kernel.specs.declared.judge.Judge.{Judge as DeclaredJudge}
use Rattle.clf_kernel.specs.Judge.{IsGrown, context_of}
use Rattle.clf_kernel.proofs.judge.Judge.leave_to.Given as goal

abbrev pub invariant-loop-self : goal.invariant-loop-self
invariant-loop-self l = (outer : DeclaredJudge) → IsGrown outer l.fn.self → length outer.ctx.entries ≡ l.fn.len → IsGrown outer l.self

abbrev pub decreases-loop-self : goal.decreases-loop-self
decreases-loop-self l = length (context_of l.self)
