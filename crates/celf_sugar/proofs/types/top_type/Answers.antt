use Rattle.celf_sugar.proofs.TypeLaws.{top-made}
use Rattle.celf_sugar.proofs.types.top_type.Goals as goal

pub returns : goal.returns
returns c = top-made c.args.span
