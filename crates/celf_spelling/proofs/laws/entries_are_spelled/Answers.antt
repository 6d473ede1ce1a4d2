use Rattle.celf_spelling.proofs.Spelled.{entries_are_spelled}
use Rattle.celf_spelling.proofs.laws.entries_are_spelled.Goals as goal

pub returns : goal.returns
returns c = entries_are_spelled
