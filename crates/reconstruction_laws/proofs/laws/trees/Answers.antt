use Rattle.reconstruction_laws.proofs.TreesFormed.{kind_tree_conforms, tree_conforms}
use Rattle.reconstruction_laws.proofs.laws.trees.Goals as goal

pub returns-clause-types : goal.returns-clause-types
returns-clause-types c = tree_conforms

pub returns-clause-kinds : goal.returns-clause-kinds
returns-clause-kinds c = kind_tree_conforms
