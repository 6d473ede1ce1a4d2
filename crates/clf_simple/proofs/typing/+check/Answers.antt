use Rattle.std.proofs.Common.{arith, sym}
use Rattle.clf_simple.specs.Scope.{head_types, scope}
use Rattle.clf_simple.proofs.Lists.{tuple_differs}
use Rattle.clf_simple.proofs.typing.+check.Goals as goal

pub check_tuple-returns-then-tuple-entries : goal.check_tuple-returns-then-tuple-entries
check_tuple-returns-then-tuple-entries t c = sym (tuple_differs (head_types c.args.heads.now) (scope c.args.locals.now) c.args.tuple.now c.args.entries.now (λ e. grind (arith, c.if-tuple-entries.true)))
