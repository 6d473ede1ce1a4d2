-- One call for each byte: what is tried before it closes none of these.
use Rattle.std.proofs.Common.{arith}
use Rattle.std.proofs.lemmas.Grind.{common_steps}
use Rattle.celf_lexer.proofs.sign.lone_sign.Goals as goal

pub returns-in-62-clause-value : goal.returns-in-62-clause-value
returns-in-62-clause-value c after = grind (arith, common_steps)

pub returns-in-123-clause-value : goal.returns-in-123-clause-value
returns-in-123-clause-value c after = grind (arith, common_steps)

pub returns-in-125-clause-value : goal.returns-in-125-clause-value
returns-in-125-clause-value c after = grind (arith, common_steps)

pub returns-in-40-clause-value : goal.returns-in-40-clause-value
returns-in-40-clause-value c after = grind (arith, common_steps)

pub returns-in-41-clause-value : goal.returns-in-41-clause-value
returns-in-41-clause-value c after = grind (arith, common_steps)

pub returns-in-91-clause-value : goal.returns-in-91-clause-value
returns-in-91-clause-value c after = grind (arith, common_steps)

pub returns-in-93-clause-value : goal.returns-in-93-clause-value
returns-in-93-clause-value c after = grind (arith, common_steps)

pub returns-in-44-clause-value : goal.returns-in-44-clause-value
returns-in-44-clause-value c after = grind (arith, common_steps)

pub returns-in-46-clause-value : goal.returns-in-46-clause-value
returns-in-46-clause-value c after = grind (arith, common_steps)

pub returns-in-58-clause-value : goal.returns-in-58-clause-value
returns-in-58-clause-value c after = grind (arith, common_steps)

pub returns-in-61-clause-value : goal.returns-in-61-clause-value
returns-in-61-clause-value c after = grind (arith, common_steps)

pub returns-in-92-clause-value : goal.returns-in-92-clause-value
returns-in-92-clause-value c after = grind (arith, common_steps)

pub returns-in-33-clause-value : goal.returns-in-33-clause-value
returns-in-33-clause-value c after = grind (arith, common_steps)

pub returns-in-64-clause-value : goal.returns-in-64-clause-value
returns-in-64-clause-value c after = grind (arith, common_steps)

pub returns-in-42-clause-value : goal.returns-in-42-clause-value
returns-in-42-clause-value c after = grind (arith, common_steps)

pub returns-in-38-clause-value : goal.returns-in-38-clause-value
returns-in-38-clause-value c after = grind (arith, common_steps)

pub returns-in_default-clause-value : goal.returns-in_default-clause-value
returns-in_default-clause-value c after = grind (arith, common_steps)
