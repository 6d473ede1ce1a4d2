use Rattle.answer_laws.proofs.Sources.{absorbed_again, side_put_in}
use Rattle.answer_laws.proofs.laws.origins.Goals as goal

pub returns-clause-side_put_in : goal.returns-clause-side_put_in
returns-clause-side_put_in c = side_put_in

pub returns-clause-absorbed_again : goal.returns-clause-absorbed_again
returns-clause-absorbed_again c = absorbed_again
