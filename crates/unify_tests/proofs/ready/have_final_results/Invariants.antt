-- Those that were looked at have such results.
use Rattle.std.proofs.Common.{map, take}
use Rattle.clf_syntax.specs.PlainSimple.{plain_simple}
use Rattle.unify_tests.specs.Started.{AllFinal}
use Rattle.unify_tests.proofs.ready.have_final_results.Given as goal

abbrev pub invariant-loop-ty : goal.invariant-loop-ty
invariant-loop-ty l = AllFinal (map plain_simple (take l.ty-index l.types))
