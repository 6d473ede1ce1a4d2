use Rattle.celf_sugar.proofs.TypeLaws.{function-made}
use Rattle.celf_sugar.proofs.types.function_type.Goals as goal

pub returns : goal.returns
returns c = function-made c.args.span c.args.mode c.args.name c.args.dom c.args.cod
