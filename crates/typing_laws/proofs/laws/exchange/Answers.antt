use Rattle.typing_laws.proofs.Swapped.{context_exchange}
use Rattle.typing_laws.proofs.laws.exchange.Goals as goal

pub returns : goal.returns
returns c = context_exchange
