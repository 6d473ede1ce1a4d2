use Rattle.reach_walk.proofs.Premising.{clash_none, pruning, same_fewer, pattern_mentions}
use Rattle.reach_walk.proofs.laws.stepping.Goals as goal

pub returns-clause-clash_has_none : goal.returns-clause-clash_has_none
returns-clause-clash_has_none c = clash_none

pub returns-clause-prune_narrows : goal.returns-clause-prune_narrows
returns-clause-prune_narrows c = pruning

pub returns-clause-same_narrows : goal.returns-clause-same_narrows
returns-clause-same_narrows c = same_fewer

pub returns-clause-pattern_mentions : goal.returns-clause-pattern_mentions
returns-clause-pattern_mentions c = pattern_mentions
