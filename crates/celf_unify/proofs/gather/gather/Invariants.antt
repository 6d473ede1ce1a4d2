-- The equations come down to those that are left and those that are still to be looked at.
use Rattle.std.proofs.Common.{◌++◌, map}
use Rattle.pattern_laws.specs.Equations.{Equation, Listed}
use Rattle.solver_laws.specs.Reduced.{Reduced, LeftOver, work_size}
use Rattle.celf_constraints.specs.Equated.{plain_equation, equations_in}
use Rattle.celf_unify.specs.Gathered.{consts_in, metas_in}
use Rattle.celf_unify.proofs.gather.gather.Given as goal

abbrev pub invariant-loop-equation : goal.invariant-loop-equation
invariant-loop-equation l = record {
  reduced : Reduced (consts_in l.store) (metas_in l.store) (map plain_equation l.initial.work.items) (equations_in l.left ++ map plain_equation l.work.items);
  over : (e : Equation) → Listed e (equations_in l.left) → LeftOver (consts_in l.store) (metas_in l.store) e;
}

abbrev pub decreases-loop-equation : goal.decreases-loop-equation
decreases-loop-equation l = work_size (map plain_equation l.work.items)
