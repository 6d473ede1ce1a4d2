use Rattle.typing_laws.proofs.ContextLaws.{context_weakening}
use Rattle.typing_laws.proofs.MoreAffine.{affine_weakening}
use Rattle.typing_laws.proofs.laws.weakening.Goals as goal

pub returns-clause-affine : goal.returns-clause-affine
returns-clause-affine c = affine_weakening

pub returns-clause-context : goal.returns-clause-context
returns-clause-context c = context_weakening
