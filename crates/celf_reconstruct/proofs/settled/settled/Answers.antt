use Rattle.clf_sig.specs.Signature.{plain_signature}
use Rattle.celf_reconstruct.proofs.Settling.{declined_so, found_so}
use Rattle.celf_reconstruct.proofs.settled.settled.Goals as goal

pub returns-clause-found : goal.returns-clause-found
returns-clause-found c = found_so (plain_signature c.args.sig.now) c.requires.formed c.args.scene c.solved.result c.solved.ensures.found

pub returns-clause-declined : goal.returns-clause-declined
returns-clause-declined c = declined_so (plain_signature c.args.sig.now) c.args.scene c.solved.result c.solved.ensures.unsettled
