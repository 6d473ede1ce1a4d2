-- Those that were looked at are typed.
use Rattle.std.proofs.Common.{map, take}
use Rattle.pattern_laws.specs.Equations.{TypedEquations}
use Rattle.celf_constraints.specs.Equated.{plain_equation}
use Rattle.celf_unify.specs.Gathered.{consts_in, metas_in}
use Rattle.unify_tests.proofs.ready.are_typed.Given as goal

abbrev pub invariant-loop-equation : goal.invariant-loop-equation
invariant-loop-equation l = TypedEquations (consts_in l.store) (metas_in l.store) (map plain_equation (take l.equation-index l.given))
