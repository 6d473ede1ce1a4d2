-- The work on the equations goes on, in a store that is only added to.
use Rattle.std.proofs.Common.{◌≡◌}
use Rattle.solver_laws.specs.Solving.{store_weight, Ready}
use Rattle.flat_systems.specs.Systems.{FlatStore, FlatSystem}
use Rattle.celf_constraints.specs.Equated.{equations_in}
use Rattle.metavars.specs.Stored.{IsPart, constants, additions}
use Rattle.celf_unify.specs.Passes.{StillSolving}
use Rattle.celf_unify.proofs.whole.unify.Given as goal

abbrev pub invariant-loop-left : goal.invariant-loop-left
invariant-loop-left l = record {
  part : IsPart l.initial.store l.store;
  same : constants l.store ≡ constants l.initial.store;
  ready : Ready (constants l.initial.store) (additions l.store) (equations_in l.equations);
  solving : StillSolving (constants l.initial.store) (additions l.initial.store) (additions l.store) (equations_in l.equations);
  flat : FlatSystem (constants l.initial.store) (additions l.initial.store) (equations_in l.equations) → FlatStore (constants l.initial.store) (additions l.store);
}

abbrev pub decreases-loop-left : goal.decreases-loop-left
decreases-loop-left l = store_weight (additions l.store)
