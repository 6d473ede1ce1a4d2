use Rattle.metavars.proofs.TypesStores.{store_is_typed}
use Rattle.metavars.proofs.laws.typed_stores.Goals as goal

pub returns : goal.returns
returns c = store_is_typed
