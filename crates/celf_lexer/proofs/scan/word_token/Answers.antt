-- One call for each way out: what is tried before it closes none of these.
use Rattle.std.proofs.Common.{arith}
use Rattle.std.proofs.lemmas.Grind.{common_steps}
use Rattle.celf_lexer.proofs.scan.word_token.Goals as goal

pub returns-then-is_back_lolli : goal.returns-then-is_back_lolli
returns-then-is_back_lolli c = grind (arith, common_steps)

pub returns : goal.returns
returns c = grind (arith, common_steps)
