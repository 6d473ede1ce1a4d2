use Rattle.pattern_laws.proofs.OnePlace.{one_reading}
use Rattle.pattern_laws.proofs.Places.{same_types, ends_held, covers}
use Rattle.pattern_laws.proofs.Orders.{ordered_no_circle}
use Rattle.pattern_laws.proofs.laws.reading.Goals as goal

pub returns-clause-one_reading : goal.returns-clause-one_reading
returns-clause-one_reading c = one_reading

pub returns-clause-same_places : goal.returns-clause-same_places
returns-clause-same_places c = same_types

pub returns-clause-ends_are_held : goal.returns-clause-ends_are_held
returns-clause-ends_are_held c = λ ps zs held d f g j e. ends_held ps zs held d f g e

pub returns-clause-ordered_has_no_circle : goal.returns-clause-ordered_has_no_circle
returns-clause-ordered_has_no_circle c = ordered_no_circle

pub returns-clause-covers_where_no_foreign : goal.returns-clause-covers_where_no_foreign
returns-clause-covers_where_no_foreign c = covers
