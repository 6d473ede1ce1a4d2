use Rattle.gathered_laws.proofs.Finals.{new_types_are_final}
use Rattle.gathered_laws.proofs.ReadingsWhole.{reading_has_no_hole}
use Rattle.gathered_laws.proofs.laws.readings.Goals as goal

pub returns-clause-whole : goal.returns-clause-whole
returns-clause-whole c = reading_has_no_hole

pub returns-clause-results : goal.returns-clause-results
returns-clause-results c = new_types_are_final
