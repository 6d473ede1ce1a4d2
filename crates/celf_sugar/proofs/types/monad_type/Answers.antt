use Rattle.celf_sugar.proofs.TypeLaws.{monad-made}
use Rattle.celf_sugar.proofs.types.monad_type.Goals as goal

pub returns : goal.returns
returns c = monad-made c.args.span c.args.entries
