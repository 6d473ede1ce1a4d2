use Rattle.typing_laws.proofs.Counted.{used_at_most_once, linear_occurs}
use Rattle.typing_laws.proofs.laws.used.Goals as goal

pub returns-clause-once : goal.returns-clause-once
returns-clause-once c = used_at_most_once

pub returns-clause-linear : goal.returns-clause-linear
returns-clause-linear c = linear_occurs
