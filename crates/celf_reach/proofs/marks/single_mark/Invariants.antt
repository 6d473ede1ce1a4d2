use Rattle.std.proofs.Common.{false}
use Rattle.celf_reach.proofs.Masking.{MarkedTo}
use Rattle.celf_reach.proofs.marks.single_mark.Given as goal

abbrev pub invariant-loop-place : goal.invariant-loop-place
invariant-loop-place l = MarkedTo (λ j. false) l._place l.marks.items
