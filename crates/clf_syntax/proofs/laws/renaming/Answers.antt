use Rattle.clf_syntax.proofs.Renamings.{shift_is_renaming, renamings_compose, renaming_and_occurrence}
use Rattle.clf_syntax.proofs.laws.renaming.Goals as goal

pub returns-clause-shift : goal.returns-clause-shift
returns-clause-shift c = shift_is_renaming

pub returns-clause-compose : goal.returns-clause-compose
returns-clause-compose c = renamings_compose

pub returns-clause-occurrence : goal.returns-clause-occurrence
returns-clause-occurrence c = renaming_and_occurrence
