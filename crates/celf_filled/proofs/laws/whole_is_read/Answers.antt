use Rattle.celf_filled.proofs.WholeItems.{whole_is_read}
use Rattle.celf_filled.proofs.laws.whole_is_read.Goals as goal

pub returns : goal.returns
returns c = whole_is_read
