use Rattle.hered_put.proofs.Freely.{freely_makes, freely_answers_as}
use Rattle.hered_put.proofs.laws.free_substitution.Goals as goal

pub returns-clause-makes : goal.returns-clause-makes
returns-clause-makes c = freely_makes

pub returns-clause-limit : goal.returns-clause-limit
returns-clause-limit c = freely_answers_as
