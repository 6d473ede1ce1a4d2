use Rattle.clf_rules.proofs.Held.{well_formed_is_clean}
use Rattle.clf_rules.proofs.laws.clean.Goals as goal

pub returns-clause-types : goal.returns-clause-types
returns-clause-types c = well_formed_is_clean
