use Rattle.unify_laws.proofs.Consequences.{of_lam, of_pair, of_part, of_given}
use Rattle.unify_laws.proofs.Steps.{joined_solved}
use Rattle.unify_laws.proofs.laws.following.Goals as goal

pub returns-clause-lams_follow : goal.returns-clause-lams_follow
returns-clause-lams_follow c = of_lam

pub returns-clause-pairs_follow : goal.returns-clause-pairs_follow
returns-clause-pairs_follow c = of_pair

pub returns-clause-parts_follow : goal.returns-clause-parts_follow
returns-clause-parts_follow c = of_part

pub returns-clause-put_in_follows : goal.returns-clause-put_in_follows
returns-clause-put_in_follows c = of_given

pub returns-clause-joined_solved : goal.returns-clause-joined_solved
returns-clause-joined_solved c = joined_solved
