use Rattle.metavars.proofs.FreshTyped.{fresh_is_typed}
use Rattle.metavars.proofs.laws.new_metavariables.Goals as goal

pub returns : goal.returns
returns c = fresh_is_typed
