use Rattle.conform_laws.proofs.Whole.{fits_gathers, gathers_nothing_misfits}
use Rattle.conform_laws.proofs.laws.fitting.Goals as goal

pub returns-clause-gathers : goal.returns-clause-gathers
returns-clause-gathers c = fits_gathers

pub returns-clause-misfits : goal.returns-clause-misfits
returns-clause-misfits c = gathers_nothing_misfits
