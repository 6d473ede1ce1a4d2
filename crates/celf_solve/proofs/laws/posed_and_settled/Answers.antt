use Rattle.celf_solve.proofs.Answers.{posed_and_settled}
use Rattle.celf_solve.proofs.laws.posed_and_settled.Goals as goal

pub returns : goal.returns
returns c = posed_and_settled
