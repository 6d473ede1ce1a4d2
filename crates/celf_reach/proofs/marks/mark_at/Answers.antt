use Rattle.std.proofs.Common.{arith}
use Rattle.celf_reach.proofs.Masking.{mask_there, mask_past}
use Rattle.celf_reach.proofs.marks.mark_at.Goals as goal

pub returns-then-place-marks : goal.returns-then-place-marks
returns-then-place-marks c = mask_there c.args.marks.now c.args.place (omega (arith, c.if-place-marks.true))

pub returns-else-place-marks : goal.returns-else-place-marks
returns-else-place-marks c = mask_past c.args.marks.now c.args.place (omega (arith, c.if-place-marks.false))
