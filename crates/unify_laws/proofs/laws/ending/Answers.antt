use Rattle.unify_laws.proofs.Weights.{weight_assign, weight_narrow}
use Rattle.unify_laws.proofs.laws.ending.Goals as goal

pub returns-clause-assign_is_lighter : goal.returns-clause-assign_is_lighter
returns-clause-assign_is_lighter c = weight_assign

pub returns-clause-narrow_is_lighter : goal.returns-clause-narrow_is_lighter
returns-clause-narrow_is_lighter c = weight_narrow
