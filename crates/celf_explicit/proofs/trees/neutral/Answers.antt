use Rattle.clf_syntax.specs.Plain.{plain-neutral}
use Rattle.celf_explicit.proofs.trees.neutral.Goals as goal

pub returns : goal.returns
returns c = plain-neutral _
