use Rattle.reconstruction_laws.proofs.RereadingTypes.{readings_become}
use Rattle.reconstruction_laws.proofs.laws.readings.Goals as goal

pub returns : goal.returns
returns c = readings_become
