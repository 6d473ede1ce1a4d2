use Rattle.std.proofs.Common.{rules, sym}
use Rattle.celf_unify.specs.Gathered.{consts_in, metas_in}
use Rattle.unify_tests.proofs.Beginnings.{typed_next}
use Rattle.unify_tests.proofs.ready.are_typed.Goals as goal

pub loop-equation-preserved : goal.loop-equation-preserved
loop-equation-preserved c = typed_next (consts_in c.args.store.now) (metas_in c.args.store.now) c.args.given.now c.loop-equation.equation-index c.equation-item.result c.loop-equation-test.true (sym c.equation-item.is) c.loop-equation.invariant (c.in_ok-is_typed.ensures (search rules))
