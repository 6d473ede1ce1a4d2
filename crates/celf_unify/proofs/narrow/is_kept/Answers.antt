use Rattle.std.proofs.Common.{arith}
use Rattle.celf_unify.proofs.Placing.{mask_within, mask_outside}
use Rattle.celf_unify.proofs.narrow.is_kept.Goals as goal

pub returns-then-number-mask : goal.returns-then-number-mask
returns-then-number-mask c = mask_within c.args.mask.now c.args.number (grind (arith, c.if-number-mask.true))

pub returns-else-number-mask : goal.returns-else-number-mask
returns-else-number-mask c = grind (arith, mask_outside c.args.mask.now c.args.number c.if-number-mask.false)
