use Rattle.reconstruction_laws.proofs.Fronted.{declaration_is_elaboration}
use Rattle.reconstruction_laws.proofs.FamiliesElaborated.{family_is_elaboration}
use Rattle.reconstruction_laws.proofs.Solved.{solved_is_all_put_in}
use Rattle.reconstruction_laws.proofs.laws.found.Goals as goal

pub returns-clause-constants : goal.returns-clause-constants
returns-clause-constants c = declaration_is_elaboration

pub returns-clause-families : goal.returns-clause-families
returns-clause-families c = family_is_elaboration

pub returns-clause-solved : goal.returns-clause-solved
returns-clause-solved c = solved_is_all_put_in
