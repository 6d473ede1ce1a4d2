use Rattle.typing_laws.proofs.LetGo.{letting_go}
use Rattle.typing_laws.proofs.Strengthened.{context_strengthening}
use Rattle.typing_laws.proofs.laws.strengthening.Goals as goal

pub returns-clause-letting_go : goal.returns-clause-letting_go
returns-clause-letting_go c = letting_go

pub returns-clause-context : goal.returns-clause-context
returns-clause-context c = context_strengthening
