use Rattle.flat_laws.proofs.FlatReach.{flat_reach}
use Rattle.flat_laws.proofs.FlatRenamed.{flat_renamed}
use Rattle.flat_laws.proofs.FlatSteps.{flat_inverted, flat_narrowed}
use Rattle.flat_laws.proofs.laws.flat.Goals as goal

pub returns-clause-flat_reaches : goal.returns-clause-flat_reaches
returns-clause-flat_reaches c = flat_reach

pub returns-clause-flat_is_inverted : goal.returns-clause-flat_is_inverted
returns-clause-flat_is_inverted c = flat_inverted

pub returns-clause-flat_is_narrowed : goal.returns-clause-flat_is_narrowed
returns-clause-flat_is_narrowed c = flat_narrowed

pub returns-clause-flat_is_renamed : goal.returns-clause-flat_is_renamed
returns-clause-flat_is_renamed c = flat_renamed
