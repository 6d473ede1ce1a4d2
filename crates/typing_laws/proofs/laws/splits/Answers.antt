use Rattle.typing_laws.proofs.SplitLaws.{split_commutes, split_associates, split_has_neutral}
use Rattle.typing_laws.proofs.laws.splits.Goals as goal

pub returns-clause-commutes : goal.returns-clause-commutes
returns-clause-commutes c = split_commutes

pub returns-clause-associates : goal.returns-clause-associates
returns-clause-associates c = split_associates

pub returns-clause-neutral : goal.returns-clause-neutral
returns-clause-neutral c = split_has_neutral
