use Rattle.celf_objects.proofs.Made.{expression-made}
use Rattle.celf_objects.proofs.trees.expression.Goals as goal

pub returns : goal.returns
returns c = expression-made c.args.steps c.args.tuple
