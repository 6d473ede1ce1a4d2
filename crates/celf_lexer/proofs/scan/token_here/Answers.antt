-- One call for each of these ways out: what is tried before it closes none. At the last way out it stops at its limit of cases.
use Rattle.std.proofs.Common.{arith}
use Rattle.std.proofs.lemmas.Grind.{common_steps}
use Rattle.celf_lexer.specs.Sign.{front}
use Rattle.celf_lexer.proofs.scan.token_here.Goals as goal

pub returns-in-len1-up : goal.returns-in-len1-up
unfolding front
returns-in-len1-up c = grind (arith, common_steps)

pub returns-in-36 : goal.returns-in-36
unfolding front
returns-in-36 c = grind (arith, common_steps)

pub returns-in-35 : goal.returns-in-35
unfolding front
returns-in-35 c = grind (arith, common_steps)
