use Rattle.unify_laws.proofs.Assign.{assign_step, assign_done}
use Rattle.unify_laws.proofs.PruneStep.{prune_step, same_step}
use Rattle.unify_laws.proofs.laws.solving.Goals as goal

pub returns-clause-assign_keeps : goal.returns-clause-assign_keeps
returns-clause-assign_keeps c = assign_step

pub returns-clause-assign_settles : goal.returns-clause-assign_settles
returns-clause-assign_settles c = assign_done

pub returns-clause-prune_keeps : goal.returns-clause-prune_keeps
returns-clause-prune_keeps c = prune_step

pub returns-clause-same_keeps : goal.returns-clause-same_keeps
returns-clause-same_keeps c = same_step
