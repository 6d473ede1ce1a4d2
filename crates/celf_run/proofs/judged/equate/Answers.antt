use Rattle.clf_syntax.specs.Plain.{plain_obj}
use Rattle.clf_syntax.specs.PlainTypes.{plain_ty}
use Rattle.clf_sig.specs.Signature.{plain_signature}
use Rattle.clf_sig.specs.Core.{equates}
use Rattle.celf_run.specs.Allowed.{IsTyped}
use Rattle.celf_run.proofs.Answering.{common-fault, first-fault, second-fault, compared-told, fault-told}
use Rattle.celf_run.proofs.judged.equate.Goals as goal

pub returns-in-Err : goal.returns-in-Err
returns-in-Err c =
    let sig = plain_signature c.args.sig.now in
    let n = plain_obj c.args.left.now in
    let o = plain_obj c.args.right.now in
    let a = plain_ty c.args.ty.now in
    let told = fault-told c.args.options.now sig c.args.at 0 (equates n o a) c.in-Err.fault c.refusal_of.result (common-fault sig n o a c.in-Err.fault c.in-Err.ensures) c.refusal_of.ensures in
    record { answered = told.0; wide = told.1 }

pub returns-in-Err-check_closed : goal.returns-in-Err-check_closed
returns-in-Err-check_closed c =
    let sig = plain_signature c.args.sig.now in
    let n = plain_obj c.args.left.now in
    let o = plain_obj c.args.right.now in
    let a = plain_ty c.args.ty.now in
    let fault = c.in-Err-check_closed.fault in
    let told = fault-told c.args.options.now sig c.args.at 1 (equates n o a) fault c.refusal_of-in-Err-check_closed.result (first-fault sig n o a fault c.in-Err-check_closed.ensures) c.refusal_of-in-Err-check_closed.ensures in
    record { answered = told.0; wide = told.1 }

pub returns-in-Ok-clause-answered : goal.returns-in-Ok-clause-answered
returns-in-Ok-clause-answered c =
    let sig = plain_signature c.args.sig.now in
    let n = plain_obj c.args.left.now in
    let o = plain_obj c.args.right.now in
    let a = plain_ty c.args.ty.now in
    let first : IsTyped sig n a = record { formed = c.in_default.ensures; has = c.in_default-check_closed.ensures } in
    let second : IsTyped sig o a = record { formed = c.in_default.ensures; has = c.in-Ok.ensures } in
    compared-told c.args.options.now sig c.args.at n o a c.compare.result first second c.compare.ensures.compared

pub returns-in-Err-check_closed-2 : goal.returns-in-Err-check_closed-2
returns-in-Err-check_closed-2 c =
    let sig = plain_signature c.args.sig.now in
    let n = plain_obj c.args.left.now in
    let o = plain_obj c.args.right.now in
    let a = plain_ty c.args.ty.now in
    let fault = c.in-Err-check_closed-2.fault in
    let first : IsTyped sig n a = record { formed = c.in_default.ensures; has = c.in_default-check_closed.ensures } in
    let told = fault-told c.args.options.now sig c.args.at 2 (equates n o a) fault c.refusal_of-in-Err-check_closed-2.result (second-fault sig n o a fault first c.in-Err-check_closed-2.ensures) c.refusal_of-in-Err-check_closed-2.ensures in
    record { answered = told.0; wide = told.1 }
