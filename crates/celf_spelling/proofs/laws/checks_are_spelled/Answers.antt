use Rattle.celf_spelling.proofs.Spelled.{checks_are_spelled}
use Rattle.celf_spelling.proofs.laws.checks_are_spelled.Goals as goal

pub returns : goal.returns
returns c = checks_are_spelled
