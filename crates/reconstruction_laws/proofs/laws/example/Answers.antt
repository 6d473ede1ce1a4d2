use Rattle.reconstruction_laws.proofs.Worked.{worked}
use Rattle.reconstruction_laws.proofs.laws.example.Goals as goal

pub returns : goal.returns
returns c = worked
