use Rattle.typing_laws.proofs.JoinedChains.{joined_is_equivalence_on_each_sort, joined_is_congruence}
use Rattle.typing_laws.proofs.laws.congruence.Goals as goal

pub returns-clause-equivalence : goal.returns-clause-equivalence
returns-clause-equivalence c = joined_is_equivalence_on_each_sort

pub returns-clause-parts : goal.returns-clause-parts
returns-clause-parts c = joined_is_congruence
