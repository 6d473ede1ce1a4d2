use Rattle.celf_reconstruct.specs.Reconstructed.{beyond}
use Rattle.celf_reconstruct.proofs.whole.with_variables.Goals as goal

pub returns-then-is_beyond : goal.returns-then-is_beyond
returns-then-is_beyond c = beyond (c.is_beyond.ensures.beyond c.if-is_beyond.true)
