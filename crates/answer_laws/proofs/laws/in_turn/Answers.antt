use Rattle.answer_laws.proofs.InTurn.{rests_in_turn, traced_in_turn}
use Rattle.answer_laws.proofs.laws.in_turn.Goals as goal

pub returns-clause-rests : goal.returns-clause-rests
returns-clause-rests c = rests_in_turn

pub returns-clause-traced : goal.returns-clause-traced
returns-clause-traced c = traced_in_turn
