use Rattle.store_laws.proofs.Stores.{store_grows, store_is_cut}
use Rattle.store_laws.proofs.laws.growing.Goals as goal

pub returns-clause-more : goal.returns-clause-more
returns-clause-more c = store_grows

pub returns-clause-less : goal.returns-clause-less
returns-clause-less c = store_is_cut
