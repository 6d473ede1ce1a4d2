use Rattle.celf_explicit.proofs.WhereExplicit.{known_where_read}
use Rattle.celf_explicit.proofs.laws.known_where_read.Goals as goal

pub returns : goal.returns
returns c = known_where_read
