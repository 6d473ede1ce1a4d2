use Rattle.celf_implicit.proofs.RoundLaws.{least_closed}
use Rattle.celf_implicit.proofs.laws.least_closed.Goals as goal

pub returns : goal.returns
returns c sig body = least_closed sig body
