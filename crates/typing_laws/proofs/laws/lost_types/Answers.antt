use Rattle.typing_laws.proofs.Lost.{exchange_loses_types}
use Rattle.typing_laws.proofs.laws.lost_types.Goals as goal

pub returns : goal.returns
returns c = exchange_loses_types
