use Rattle.joined_laws.proofs.Results.{respects_all}
use Rattle.joined_laws.proofs.Environs.{joined_put, joined_under, joined_instances}
use Rattle.joined_laws.proofs.laws.joined_results.Goals as goal

pub returns-clause-results : goal.returns-clause-results
returns-clause-results c = respects_all

pub returns-clause-put : goal.returns-clause-put
returns-clause-put c = joined_put

pub returns-clause-under : goal.returns-clause-under
returns-clause-under c = joined_under

pub returns-clause-instances : goal.returns-clause-instances
returns-clause-instances c = joined_instances
