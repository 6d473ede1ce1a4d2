use Rattle.gathering.proofs.Whole.{gathering_types}
use Rattle.gathering.proofs.laws.typing.Goals as goal

pub returns : goal.returns
returns c = gathering_types
