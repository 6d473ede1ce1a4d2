use Rattle.std.proofs.Common.{arith}
use Rattle.celf_front.proofs.Circles.{passed}
use Rattle.celf_front.proofs.circle.place_of.Goals as goal

pub returns : goal.returns
returns c = absurd (passed c.args.numbers.now c.args.sought c.requires (λ k lt. c.loop-place.invariant k (omega arith)))
