use Rattle.reach_walk.proofs.Reaching.{clash_reaches, same_reaches, prune_reaches, assign_reaches, other_no}
use Rattle.reach_walk.proofs.laws.answering.Goals as goal

pub returns-clause-answers_reach : goal.returns-clause-answers_reach
returns-clause-answers_reach c constants metas ls a side other = record {
  clash = clash_reaches constants metas ls a side other;
  same = same_reaches constants metas ls a side other;
  prune = prune_reaches constants metas ls a side other;
  assign = assign_reaches constants metas ls a side other;
}

pub returns-clause-nothing_found : goal.returns-clause-nothing_found
returns-clause-nothing_found c = other_no
