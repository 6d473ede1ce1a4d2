use Rattle.reconstruction_laws.proofs.ExplicitItems.{explicit_is_filled, filled_is_explicit}
use Rattle.reconstruction_laws.proofs.laws.explicit.Goals as goal

pub returns-clause-filled : goal.returns-clause-filled
returns-clause-filled c = explicit_is_filled

pub returns-clause-back : goal.returns-clause-back
returns-clause-back c = filled_is_explicit
