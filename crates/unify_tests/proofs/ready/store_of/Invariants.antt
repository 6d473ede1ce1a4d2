-- Metavariables alone were added.
use Rattle.metavars.specs.Stored.{additions}
use Rattle.unify_tests.specs.Started.{HasNoSolution}
use Rattle.unify_tests.proofs.ready.store_of.Given as goal

abbrev pub invariant-loop-ty : goal.invariant-loop-ty
invariant-loop-ty l = HasNoSolution (additions l.store)
