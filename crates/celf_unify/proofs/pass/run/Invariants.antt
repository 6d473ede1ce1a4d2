-- The work goes on from where it stood.
use Rattle.std.proofs.Common.{◌≡◌, ◌≤◌, List}
use Rattle.store_laws.specs.Additions.{Addition}
use Rattle.pattern_laws.specs.Equations.{Equation}
use Rattle.solver_laws.specs.Solving.{store_weight, Ready}
use Rattle.metavars.specs.Stored.{IsPart, constants, additions}
use Rattle.celf_unify.specs.Passes.{IsReady, MayRun, WorkStands, FlatStands}
use Rattle.celf_unify.proofs.pass.run.Given as goal

abbrev pub invariant-loop-state : goal.invariant-loop-state
invariant-loop-state l = record {
  may : MayRun (constants l.initial.store) (additions l.store) l.state;
  part : IsPart l.initial.store l.store;
  same : constants l.store ≡ constants l.initial.store;
  lighter : store_weight (additions l.store) ≤ store_weight (additions l.initial.store);
  goes : (before : List Addition) (es : List Equation) → IsReady l.initial.store es → WorkStands (constants l.initial.store) before (additions l.initial.store) es l.fn.first
      → Ready (constants l.initial.store) (additions l.store) es × WorkStands (constants l.initial.store) before (additions l.store) es l.state;
  flat : FlatStands (constants l.initial.store) (additions l.initial.store) l.fn.first → FlatStands (constants l.initial.store) (additions l.store) l.state;
}

abbrev pub decreases-loop-state : goal.decreases-loop-state
decreases-loop-state l = store_weight (additions l.store)
