use Rattle.std.proofs.Common.{arith}
use Rattle.std.specs.List.{range_with_len}
use Rattle.celf_reconstruct.proofs.Ranges.{range_next}
use Rattle.celf_reconstruct.proofs.declared.numbers_from.Goals as goal

pub loop-number-preserved : goal.loop-number-preserved
loop-number-preserved c = record {
  before = omega (arith, c.loop-number-test.true);
  listed = range_next c.loop-number.all c.push.new.self (range_with_len c.in-Ok-Ok.first c.args.count) c.loop-number.number c.in-Ok-Ok.end c.loop-number-test.true
      c.in_ok-push.ensures.ok c.loop-number.invariant.listed;
}
