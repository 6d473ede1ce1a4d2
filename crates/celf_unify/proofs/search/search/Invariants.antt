-- Those that are still to be looked at are some of the equations, and the others came down to those that are left.
use Rattle.std.proofs.Common.{◌≡◌, [], map, length}
use Rattle.subst_laws.specs.Environments.{Instantiation}
use Rattle.store_laws.specs.Additions.{given}
use Rattle.store_laws.specs.PutIn.{PutIn, IsClosed}
use Rattle.pattern_laws.specs.Equations.{Equation, Listed}
use Rattle.flat_systems.specs.Systems.{FlatSystem}
use Rattle.celf_constraints.specs.Equated.{plain_equation, equations_in}
use Rattle.metavars.specs.Stored.{constants, additions}
use Rattle.celf_unify.specs.Gathered.{consts_in, metas_in}
use Rattle.celf_unify.specs.Searched.{SoFar}
use Rattle.celf_unify.proofs.search.search.Given as goal

abbrev pub invariant-loop-equation : goal.invariant-loop-equation
invariant-loop-equation l = record {
  inside : (e : Equation) → Listed e (map plain_equation l.work.items) → Listed e (map plain_equation l.fn.stack.items);
  so_far : (v : Instantiation) → PutIn (given (additions l.store)) v → IsClosed v
      → SoFar (consts_in l.store) (metas_in l.store) v (map plain_equation l.fn.stack.items) (map plain_equation l.work.items) (equations_in l.left);
  flat : FlatSystem (constants l.store) (additions l.store) (map plain_equation l.fn.stack.items) → equations_in l.left ≡ [];
}

abbrev pub decreases-loop-equation : goal.decreases-loop-equation
decreases-loop-equation l = length l.work.items
