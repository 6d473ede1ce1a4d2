use Rattle.found_laws.proofs.Declarations.{found_family_is_most_general, found_is_most_general}
use Rattle.found_laws.proofs.laws.general.Goals as goal

pub returns-clause-constants : goal.returns-clause-constants
returns-clause-constants c = found_is_most_general

pub returns-clause-families : goal.returns-clause-families
returns-clause-families c = found_family_is_most_general
