use Rattle.typing_laws.proofs.TreeExamples.{substitution_examples, exchange_examples}
use Rattle.typing_laws.proofs.laws.worked_trees.Goals as goal

pub returns-clause-substitution : goal.returns-clause-substitution
returns-clause-substitution c = substitution_examples

pub returns-clause-exchange : goal.returns-clause-exchange
returns-clause-exchange c = exchange_examples
