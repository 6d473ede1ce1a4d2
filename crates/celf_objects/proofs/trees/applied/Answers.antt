use Rattle.celf_objects.proofs.Made.{applied-made}
use Rattle.celf_objects.proofs.trees.applied.Goals as goal

pub returns : goal.returns
returns c = applied-made _ _ _ _ _ c.leaf.ensures c.in_ok-head.ensures (λ e. cc (c.is_empty.ensures.1 e, c.if-is_empty.false))
