use Rattle.clf_sig.specs.Signature.{plain_signature}
use Rattle.celf_solve.specs.declared.scene.Posed.{Posed}
use Rattle.celf_solve.specs.Scenes.{Poses}
use Rattle.celf_replies.specs.Reply.{plain_mismatch}
use Rattle.std.proofs.Common.{subst}
use Rattle.celf_reconstruct.proofs.Settling.{misfit_of}
use Rattle.celf_reconstruct.proofs.settled.solved.Goals as goal

pub returns-in-Misfit-clause-unsettled : goal.returns-in-Misfit-clause-unsettled
returns-in-Misfit-clause-unsettled c = misfit_of (plain_signature c.args.sig.now) c.args.scene c.requires.scene c.in-Misfit.misfit (plain_mismatch c.mismatch.result)
    (subst (Poses (plain_signature c.args.sig.now) c.args.scene) c.in-Misfit.is c.in_ok-equations.ensures.posed) c.mismatch.ensures
