use Rattle.celf_explicit.proofs.WhereExplicit.{core_where_explicit}
use Rattle.celf_explicit.proofs.laws.core_where_explicit.Goals as goal

pub returns : goal.returns
returns c = core_where_explicit
