use Rattle.found_laws.proofs.Declarations.{clash_has_no_elaboration, clash_has_no_family_elaboration}
use Rattle.found_laws.proofs.laws.clashes.Goals as goal

pub returns-clause-constants : goal.returns-clause-constants
returns-clause-constants c = clash_has_no_elaboration

pub returns-clause-families : goal.returns-clause-families
returns-clause-families c = clash_has_no_family_elaboration
