use Rattle.std.proofs.Common.{List, ℕ, ap, length}
use Rattle.clf_sig.specs.Signature.{plain_signature}
use Rattle.celf_sugar.specs.Plain.{desugared_item}
use Rattle.celf_reconstruct.proofs.Answering.{loose_done, nothing-in}
use Rattle.celf_reconstruct.proofs.answered.left_open.Goals as goal

pub returns : goal.returns
returns c = loose_done (plain_signature c.args._sig.now) (desugared_item c.args._plain.now) c.args._variables.now c.args._unnamed c.args.found c.requires.found
    (λ d z. c.requires.unnamed z) (length c.args.rest.now) (ap (λ (ms : List ℕ). length ms) c.requires.rest) (λ e. c.requires.some (nothing-in c.args.rest.now e)) c.loose.result c.loose.ensures
