use Rattle.std.proofs.Common.{◌≡◌, ◌∙◌, sym, ap, subst, option_map, Err}
use Rattle.clf_syntax.specs.declared.fault.OrWide.{OrWide}
use Rattle.celf_unknown.specs.declared.fault.UnknownName.{UnknownName}
use Rattle.celf_explicit.specs.Explicit.{IsReading}
use Rattle.clf_sig.specs.Signature.{plain_signature}
use Rattle.clf_sig.specs.Core.{plain_core}
use Rattle.celf_sugar.specs.Plain.{desugared_item}
use Rattle.celf_replies.specs.Reply.{PlainReply, plain_reply, refused}
use Rattle.celf_run.specs.Allowed.{holding, PlainAllowed, barred}
use Rattle.celf_run.specs.Answering.{unknown_refusal}
use Rattle.celf_run.proofs.Answering.{may-be-added, core-answers, unknown-barred}
use Rattle.celf_run.proofs.answer.answer_named.Goals as goal

pub answer_core-requires-clause-added : goal.answer_core-requires-clause-added
answer_core-requires-clause-added c =
    let sig = plain_signature c.args.sig.now in
    let item = desugared_item c.args.plain.now in
    may-be-added sig item (plain_core c.in-Ok-Some.core) c.requires.name c.requires.passes (sym c.in-Ok-Some.ensures.1 ∙ ap (option_map plain_core) c.in-Ok-Some.field-0-is)

pub returns-in-Ok-Some-clause-allowed : goal.returns-in-Ok-Some-clause-allowed
returns-in-Ok-Some-clause-allowed c =
    let sig = plain_signature c.args.sig.now in
    let item = desugared_item c.args.plain.now in
    core-answers c.args.options.now sig (plain_signature c.answer_core.new.sig) item (plain_core c.in-Ok-Some.core) c.answer_core.result c.requires.passes c.in-Ok-Some.ensures.0
    (sym c.in-Ok-Some.ensures.1 ∙ ap (option_map plain_core) c.in-Ok-Some.field-0-is) c.answer_core.ensures.answered

pub answer_found-requires-clause-known : goal.answer_found-requires-clause-known
answer_found-requires-clause-known c = c.in-Ok-None.ensures.0

pub answer_found-requires-clause-hidden : goal.answer_found-requires-clause-hidden
answer_found-requires-clause-hidden c = sym c.in-Ok-None.ensures.1 ∙ ap (option_map plain_core) c.in-Ok-None.field-0-is

pub returns-in-Err-Fault-clause-allowed : goal.returns-in-Err-Fault-clause-allowed
returns-in-Err-Fault-clause-allowed c =
    let sig = plain_signature c.args.sig.now in
    let item = desugared_item c.args.plain.now in
    let told = subst (λ (f : OrWide UnknownName). IsReading sig item (Err f)) c.in-Err-Fault.field-0-is c.in-Err-Fault.ensures in
    let allowed : PlainAllowed c.args.options.now (holding sig) item (refused (unknown_refusal c.in-Err-Fault.unknown.span.start c.in-Err-Fault.unknown.name)) (holding sig) =
    barred (unknown-barred sig item _ _ c.requires.passes told) in
    let said : plain_reply c.unknown_name.result ≡ refused (unknown_refusal c.in-Err-Fault.unknown.span.start c.in-Err-Fault.unknown.name) =
    rw c.in-Err-Fault.field-0-is at c.unknown_name.ensures in
    subst (λ (r : PlainReply). PlainAllowed c.args.options.now (holding sig) item r (holding sig)) (sym said) allowed
