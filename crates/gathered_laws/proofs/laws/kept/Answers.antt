use Rattle.gathered_laws.proofs.Keeping.{core_stays_formed, equations_stay_typed, formed_core_has_no_hole}
use Rattle.gathered_laws.proofs.laws.kept.Goals as goal

pub returns-clause-whole : goal.returns-clause-whole
returns-clause-whole c = formed_core_has_no_hole

pub returns-clause-core : goal.returns-clause-core
returns-clause-core c = core_stays_formed

pub returns-clause-equations : goal.returns-clause-equations
returns-clause-equations c = equations_stay_typed
