-- One call for each way out: what is tried before it closes none of these.
use Rattle.std.proofs.Common.{arith}
use Rattle.std.proofs.lemmas.Grind.{common_steps}
use Rattle.celf_lexer.proofs.Words.{name_has_kind}
use Rattle.celf_lexer.proofs.word.is_name.Goals as goal

pub returns-in-Name : goal.returns-in-Name
returns-in-Name c = grind (arith, common_steps, name_has_kind)

pub returns-in_default : goal.returns-in_default
returns-in_default c = grind (arith, common_steps, name_has_kind)

pub returns-else-not-is_empty : goal.returns-else-not-is_empty
returns-else-not-is_empty c = grind (arith, common_steps)
