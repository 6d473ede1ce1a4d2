use Rattle.clf_syntax.specs.Plain.{plain_obj}
use Rattle.clf_syntax.specs.PlainTypes.{plain_ty}
use Rattle.clf_sig.specs.Signature.{plain_signature}
use Rattle.clf_sig.specs.Core.{checks}
use Rattle.celf_run.proofs.Answering.{type-fault, fault-told}
use Rattle.celf_run.proofs.judged.check.Goals as goal

pub returns-in-Err : goal.returns-in-Err
returns-in-Err c =
    let sig = plain_signature c.args.sig.now in
    let n = plain_obj c.args.obj in
    let a = plain_ty c.args.ty in
    let told = fault-told c.args.options.now sig c.args.at 0 (checks n a) c.in-Err.fault c.refusal_of.result (type-fault sig n a c.in-Err.fault c.in-Err.ensures) c.refusal_of.ensures in
    record { answered = told.0; wide = told.1 }
