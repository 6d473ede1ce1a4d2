use Rattle.std.proofs.Common.{ap, sym, ◌∙◌}
use Rattle.hered_put.specs.Function.{made}
use Rattle.hered_put.proofs.Environments.{written-var, written-far}
use Rattle.hered_put.proofs.head.kept_variable.Goals as goal

pub returns-then-number-lt4294967296 : goal.returns-then-number-lt4294967296
returns-then-number-lt4294967296 c = written-var c.args.number c.if-number-lt4294967296.true ∙ ap made (sym c.kept_head.ensures)

pub returns-else-number-lt4294967296 : goal.returns-else-number-lt4294967296
returns-else-number-lt4294967296 c = written-far c.args.number c.if-number-lt4294967296.false
