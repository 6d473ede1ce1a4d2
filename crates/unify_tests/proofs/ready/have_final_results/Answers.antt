use Rattle.std.proofs.Common.{rules, sym}
use Rattle.unify_tests.proofs.Beginnings.{final_next}
use Rattle.unify_tests.proofs.ready.have_final_results.Goals as goal

pub loop-ty-preserved : goal.loop-ty-preserved
loop-ty-preserved c = final_next c.args.types.now c.loop-ty.ty-index c.ty-item.result c.loop-ty-test.true (sym c.ty-item.is) c.loop-ty.invariant (c.has_final_result.ensures.0 (search rules))
