use Rattle.std.proofs.Common.{arith}
use Rattle.celf_names.specs.Names.{bound}
use Rattle.celf_names.proofs.ScopeLaws.{binds_next}
use Rattle.celf_names.proofs.scope.Scope.bind_pattern.Goals as goal

pub loop-binder-preserved : goal.loop-binder-preserved
loop-binder-preserved c = binds_next (λ b. bound b.name) _ _ _ c.args.pattern.now c.loop-binder.binder-index c.binder-item.result (omega arith) c.binder-item.is c.loop-binder.invariant c.in_ok-bind.ensures
