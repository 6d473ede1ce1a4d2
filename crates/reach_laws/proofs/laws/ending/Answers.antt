use Rattle.reach_laws.proofs.Tight.{tight}
use Rattle.reach_laws.proofs.Rests.{rest_solves, left_keeps}
use Rattle.reach_laws.proofs.laws.ending.Goals as goal

pub returns-clause-tight : goal.returns-clause-tight
returns-clause-tight c = tight

pub returns-clause-rest_solves : goal.returns-clause-rest_solves
returns-clause-rest_solves c = rest_solves

pub returns-clause-left_keeps : goal.returns-clause-left_keeps
returns-clause-left_keeps c = left_keeps
