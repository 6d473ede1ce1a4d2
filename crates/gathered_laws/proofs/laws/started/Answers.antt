use Rattle.gathered_laws.proofs.SameTypes.{store_types_the_same}
use Rattle.gathered_laws.proofs.Stores.{formed_type_has_no_variables, start_is_fresh, start_is_store}
use Rattle.gathered_laws.proofs.laws.started.Goals as goal

pub returns-clause-same : goal.returns-clause-same
returns-clause-same c = store_types_the_same

pub returns-clause-store : goal.returns-clause-store
returns-clause-store c = start_is_store

pub returns-clause-fresh : goal.returns-clause-fresh
returns-clause-fresh c = start_is_fresh

pub returns-clause-closed : goal.returns-clause-closed
returns-clause-closed c = formed_type_has_no_variables
