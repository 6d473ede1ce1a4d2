use Rattle.clf_sig.specs.Signature.{plain_signature}
use Rattle.celf_sugar.specs.Plain.{desugared_item}
use Rattle.celf_reconstruct.proofs.Answering.{undetermined_done}
use Rattle.celf_reconstruct.proofs.whole.reconstruct.Goals as goal

pub returns-in-Err : goal.returns-in-Err
returns-in-Err c = undetermined_done (plain_signature c.args.sig.now) (desugared_item c.args.plain.now) c.implicit_variables.result c.in-Err.fault c.untyped.result
    c.in-Err.is c.implicit_variables.ensures c.untyped.ensures
