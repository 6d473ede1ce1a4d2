use Rattle.answer_laws.proofs.Worked.{circle_is_no_answer, clash_is_at_part, nothing_foreign_is_left, corner_at_monad}
use Rattle.answer_laws.proofs.Patterned.{pattern_is_not_left}
use Rattle.answer_laws.proofs.laws.examples.Goals as goal

pub returns-clause-circle : goal.returns-clause-circle
returns-clause-circle c = circle_is_no_answer

pub returns-clause-clash : goal.returns-clause-clash
returns-clause-clash c = clash_is_at_part

pub returns-clause-foreign : goal.returns-clause-foreign
returns-clause-foreign c = nothing_foreign_is_left

pub returns-clause-corner : goal.returns-clause-corner
returns-clause-corner c = corner_at_monad

pub returns-clause-pattern : goal.returns-clause-pattern
returns-clause-pattern c = pattern_is_not_left
