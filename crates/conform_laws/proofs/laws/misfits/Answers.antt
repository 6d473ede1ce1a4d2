use Rattle.conform_laws.proofs.NoElaboration.{misfit_has_no_elaboration, misfit_has_no_family_elaboration}
use Rattle.conform_laws.proofs.laws.misfits.Goals as goal

pub returns-clause-constants : goal.returns-clause-constants
returns-clause-constants c = misfit_has_no_elaboration

pub returns-clause-families : goal.returns-clause-families
returns-clause-families c = misfit_has_no_family_elaboration
