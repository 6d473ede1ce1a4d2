-- One call for each way out: what is tried before it closes none of these.
use Rattle.std.proofs.Common.{arith}
use Rattle.std.proofs.lemmas.Grind.{common_steps}
use Rattle.celf_lexer.proofs.sign.first_sign.Goals as goal

pub returns-in-60-clause-value : goal.returns-in-60-clause-value
returns-in-60-clause-value c = grind (arith, common_steps)

pub returns-in-45-clause-value : goal.returns-in-45-clause-value
returns-in-45-clause-value c = grind (arith, common_steps)

pub returns-in-len1-up-clause-value : goal.returns-in-len1-up-clause-value
returns-in-len1-up-clause-value c = grind (arith, common_steps)
