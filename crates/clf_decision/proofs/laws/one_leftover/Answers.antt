use Rattle.clf_decision.proofs.OneLeftover.{object_leftover_is_one, slack_is_idle, inferred_is_one}
use Rattle.clf_decision.proofs.laws.one_leftover.Goals as goal

pub returns-clause-leftover : goal.returns-clause-leftover
returns-clause-leftover c = object_leftover_is_one

pub returns-clause-inferred : goal.returns-clause-inferred
returns-clause-inferred c = inferred_is_one

pub returns-clause-slack : goal.returns-clause-slack
returns-clause-slack c = slack_is_idle
