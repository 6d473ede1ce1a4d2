use Rattle.store_laws.proofs.Stores.{store_is_put_in}
use Rattle.store_laws.proofs.laws.putting_in.Goals as goal

pub returns : goal.returns
returns c = store_is_put_in
