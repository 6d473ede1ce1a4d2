use Rattle.celf_sugar.proofs.TypeLaws.{family-made}
use Rattle.celf_sugar.proofs.types.family_type.Goals as goal

pub returns : goal.returns
returns c = family-made c.args.span c.args.at c.args.name.now _ c.args.dollar _ _ c.in_ok-copy.ensures c.in_ok-indices.ensures
