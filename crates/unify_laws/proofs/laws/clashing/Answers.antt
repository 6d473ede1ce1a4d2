use Rattle.unify_laws.proofs.PruneStep.{head_clash_step, inside_clash_step}
use Rattle.unify_laws.proofs.Consequences.{none_of_neutrals}
use Rattle.unify_laws.proofs.PutIn.{ground_clash}
use Rattle.unify_laws.proofs.Steps.{none_back}
use Rattle.unify_laws.proofs.laws.clashing.Goals as goal

pub returns-clause-head_clashes : goal.returns-clause-head_clashes
returns-clause-head_clashes c = head_clash_step

pub returns-clause-inside_clashes : goal.returns-clause-inside_clashes
returns-clause-inside_clashes c = inside_clash_step

pub returns-clause-neutrals_clash : goal.returns-clause-neutrals_clash
returns-clause-neutrals_clash c = none_of_neutrals

pub returns-clause-ground_clashes : goal.returns-clause-ground_clashes
returns-clause-ground_clashes c = ground_clash

pub returns-clause-none_back : goal.returns-clause-none_back
returns-clause-none_back c = none_back
