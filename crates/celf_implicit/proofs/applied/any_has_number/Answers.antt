use Rattle.std.proofs.Common.{sym, arith}
use Rattle.std.proofs.lemmas.Bool.Decides.{nat_tests}
use Rattle.celf_names.proofs.ScopeLaws.{any_here, any_next}
use Rattle.celf_implicit.specs.Occurrences.{has_number}
use Rattle.celf_implicit.specs.Noting.{plain_applied}
use Rattle.celf_implicit.proofs.applied.any_has_number.Goals as goal

pub returns-then-local-number : goal.returns-then-local-number
returns-then-local-number c = sym (any_here plain_applied (has_number c.args.number) c.args.locals.now c.loop-local.local-index c.local-item.result (omega arith) c.local-item.is (grind (arith, nat_tests)))

pub loop-local-preserved : goal.loop-local-preserved
loop-local-preserved c = any_next plain_applied (has_number c.args.number) c.args.locals.now c.loop-local.local-index c.local-item.result (omega arith) c.local-item.is c.loop-local.invariant (grind (arith, nat_tests))
