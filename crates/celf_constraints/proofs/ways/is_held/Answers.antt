use Rattle.std.proofs.Common.{arith, sym}
use Rattle.celf_constraints.proofs.Growing.{mask_get, mask_beyond}
use Rattle.celf_constraints.proofs.ways.is_held.Goals as goal

pub returns-then-place-held : goal.returns-then-place-held
returns-then-place-held c = sym (mask_get c.args.held.now c.args.place)

pub returns-else-place-held : goal.returns-else-place-held
returns-else-place-held c = sym (mask_beyond c.args.held.now c.args.place (λ l. absurd (omega (arith, l, c.if-place-held.false))))
