use Rattle.solver_laws.proofs.Allowed.{assign_is_allowed, narrow_is_allowed, put_in_is_open}
use Rattle.solver_laws.proofs.laws.steps.Goals as goal

pub returns-clause-assign_is_allowed : goal.returns-clause-assign_is_allowed
returns-clause-assign_is_allowed c = assign_is_allowed

pub returns-clause-narrow_is_allowed : goal.returns-clause-narrow_is_allowed
returns-clause-narrow_is_allowed c = narrow_is_allowed

pub returns-clause-put_in_is_open : goal.returns-clause-put_in_is_open
returns-clause-put_in_is_open c = put_in_is_open
