use Rattle.use_contexts.proofs.RowLaws.{in_turn-law}
use Rattle.use_contexts.proofs.laws.rows_in_turn.Goals as goal

pub returns : goal.returns
returns c = in_turn-law
