use Rattle.celf_reconstruct.proofs.Answering.{still_declared}
use Rattle.celf_reconstruct.proofs.answered.last.Goals as goal

pub declare-requires-clause-declaration : goal.declare-requires-clause-declaration
declare-requires-clause-declaration c = still_declared c.requires.unnamed c.requires.found.found
