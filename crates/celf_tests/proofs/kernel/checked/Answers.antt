use Rattle.std.proofs.Common.{arith}
use Rattle.celf_tests.proofs.kernel.checked.Goals as goal

pub check_entry-answer-requires : goal.check_entry-answer-requires
check_entry-answer-requires c = record {
  starts = record {
    signature = c.requires.signature;
    implicit = omega (arith, c.requires.implicit);
  };
}
