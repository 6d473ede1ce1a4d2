use Rattle.subst_laws.proofs.Results.{composition, agreement, unmoved}
use Rattle.subst_laws.proofs.Instances.{composed_is_typed}
use Rattle.subst_laws.proofs.laws.environments.Goals as goal

pub returns-clause-composed : goal.returns-clause-composed
returns-clause-composed c = composition

pub returns-clause-composed_typed : goal.returns-clause-composed_typed
returns-clause-composed_typed c = composed_is_typed

pub returns-clause-agreeing : goal.returns-clause-agreeing
returns-clause-agreeing c = agreement

pub returns-clause-unmoved : goal.returns-clause-unmoved
returns-clause-unmoved c = unmoved
