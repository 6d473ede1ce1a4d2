use Rattle.celf_lexer.proofs.Unique.{front-decides}
use Rattle.celf_lexer.proofs.laws.longest_spelling_begins.Goals as goal

pub returns : goal.returns
returns c = front-decides
