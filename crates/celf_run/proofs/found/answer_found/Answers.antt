use Rattle.std.proofs.Common.{◌≡◌, sym, subst, Err}
use Rattle.clf_syntax.specs.declared.fault.OrWide.{OrWide}
use Rattle.celf_replies.specs.declared.reply.Why.{Why}
use Rattle.clf_sig.specs.Signature.{plain_signature}
use Rattle.clf_sig.specs.Core.{plain_core}
use Rattle.celf_sugar.specs.Plain.{desugared_item}
use Rattle.celf_reconstruct.specs.Reconstructed.{IsReconstruction}
use Rattle.celf_replies.specs.Reply.{PlainReply, plain_why, plain_reply}
use Rattle.celf_run.specs.Allowed.{holding, PlainAllowed, declined, not_found}
use Rattle.celf_run.specs.Answering.{refused_for}
use Rattle.celf_run.proofs.Answering.{found-may-be-added, found-answers}
use Rattle.celf_run.proofs.found.answer_found.Goals as goal

pub answer_core-requires-clause-added : goal.answer_core-requires-clause-added
answer_core-requires-clause-added c =
    found-may-be-added (plain_signature c.args.sig.now) (desugared_item c.args.plain.now) (plain_core c.in-Ok.core) c.requires.name c.requires.passes c.in-Ok.ensures

pub returns-in-Ok-answer_core-clause-allowed : goal.returns-in-Ok-answer_core-clause-allowed
returns-in-Ok-answer_core-clause-allowed c =
    found-answers c.args.options.now (plain_signature c.args.sig.now) (plain_signature c.answer_core.new.sig) (desugared_item c.args.plain.now) (plain_core c.in-Ok.core)
    (plain_reply c.in-Ok-answer_core.reply) (plain_reply c.said_of_found.result) (record { name = c.requires.passes; known = c.requires.known }) c.requires.hidden c.in-Ok.ensures
    c.in-Ok-answer_core.ensures.answered c.said_of_found.ensures

pub returns-in-Err-Fault-clause-allowed : goal.returns-in-Err-Fault-clause-allowed
returns-in-Err-Fault-clause-allowed c =
    let sig = plain_signature c.args.sig.now in
    let item = desugared_item c.args.plain.now in
    let told = subst (λ (f : OrWide Why). IsReconstruction sig item (Err f)) c.in-Err-Fault.field-0-is c.in-Err-Fault.ensures in
    let allowed : PlainAllowed c.args.options.now (holding sig) item (refused_for item.span.start (plain_why c.in-Err-Fault.why)) (holding sig) =
    declined (record { name = c.requires.passes; known = c.requires.known }) (not_found c.requires.hidden told) in
    let said : plain_reply c.declined.result ≡ refused_for item.span.start (plain_why c.in-Err-Fault.why) = rw c.in-Err-Fault.field-0-is at c.declined.ensures in
    subst (λ (r : PlainReply). PlainAllowed c.args.options.now (holding sig) item r (holding sig)) (sym said) allowed
