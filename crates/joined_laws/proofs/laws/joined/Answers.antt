use Rattle.joined_laws.proofs.JoinedLaws.{joined_types_laws, renaming_keeps_joined}
use Rattle.joined_laws.proofs.Results.{joined_keeps_types}
use Rattle.joined_laws.proofs.laws.joined.Goals as goal

pub returns-clause-equivalence : goal.returns-clause-equivalence
returns-clause-equivalence c = joined_types_laws

pub returns-clause-renamed : goal.returns-clause-renamed
returns-clause-renamed c = renaming_keeps_joined

pub returns-clause-typed : goal.returns-clause-typed
returns-clause-typed c = joined_keeps_types
