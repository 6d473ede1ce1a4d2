use Rattle.tree_laws.proofs.TypeOccurrences.{looks-at-occurring, occurs-before}
use Rattle.tree_laws.proofs.laws.occurrence.Goals as goal

pub returns-clause-looks : goal.returns-clause-looks
returns-clause-looks c = looks-at-occurring

pub returns-clause-comes : goal.returns-clause-comes
returns-clause-comes c = occurs-before
