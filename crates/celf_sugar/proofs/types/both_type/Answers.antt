use Rattle.celf_sugar.proofs.TypeLaws.{both-made}
use Rattle.celf_sugar.proofs.types.both_type.Goals as goal

pub returns : goal.returns
returns c = both-made c.args.span c.args.left c.args.right
