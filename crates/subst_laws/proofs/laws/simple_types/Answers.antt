use Rattle.subst_laws.proofs.Results.{renaming_keeps_types}
use Rattle.subst_laws.proofs.Renamed.{renaming_keeps_formed}
use Rattle.subst_laws.proofs.Variables.{neutral_has_one_type}
use Rattle.subst_laws.proofs.laws.simple_types.Goals as goal

pub returns-clause-renamed : goal.returns-clause-renamed
returns-clause-renamed c = renaming_keeps_types

pub returns-clause-formed : goal.returns-clause-formed
returns-clause-formed c = renaming_keeps_formed

pub returns-clause-neutral : goal.returns-clause-neutral
returns-clause-neutral c = neutral_has_one_type
