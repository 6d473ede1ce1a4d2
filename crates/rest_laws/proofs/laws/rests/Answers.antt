use Rattle.rest_laws.proofs.Growing.{rest_grows, rest_of_rest}
use Rattle.rest_laws.proofs.Absorbing.{later_absorbs}
use Rattle.rest_laws.proofs.Calls.{calls_in_turn}
use Rattle.rest_laws.proofs.laws.rests.Goals as goal

pub returns-clause-rest_grows : goal.returns-clause-rest_grows
returns-clause-rest_grows c = rest_grows

pub returns-clause-rest_of_rest : goal.returns-clause-rest_of_rest
returns-clause-rest_of_rest c = rest_of_rest

pub returns-clause-later_absorbs : goal.returns-clause-later_absorbs
returns-clause-later_absorbs c = later_absorbs

pub returns-clause-calls_in_turn : goal.returns-clause-calls_in_turn
returns-clause-calls_in_turn c = calls_in_turn
