use Rattle.std.proofs.Common.{ap, sym, ◌∙◌, arith}
use Rattle.hered_put.specs.Function.{made}
use Rattle.hered_put.proofs.Environments.{head-bound, head-past}
use Rattle.hered_put.proofs.head.variable_outcome.Goals as goal

pub returns-then-from-environment : goal.returns-then-from-environment
returns-then-from-environment c = head-bound c.args.environment.now c.args.index (omega arith) (omega arith) ∙ ap made (sym c.kept_head.ensures)

pub returns-in-Object : goal.returns-in-Object
returns-in-Object c =
    let e = head-past c.args.environment.now _ c.args.index (omega arith) c.in-Object.is in
    rw e c.object_outcome.ensures

pub returns-in-Tuple : goal.returns-in-Tuple
returns-in-Tuple c =
    let e = head-past c.args.environment.now _ c.args.index (omega arith) c.in-Tuple.is in
    rw e c.tuple_outcome.ensures
