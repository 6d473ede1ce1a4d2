use Rattle.std.proofs.Common.{subst, sym}
use Rattle.std.specs.Prelude.{IfOk}
use Rattle.clf_sig.specs.declared.item.Core.{Core}
use Rattle.clf_sig.specs.Core.{plain_core}
use Rattle.clf_sig.specs.Signature.{plain_signature}
use Rattle.celf_replies.specs.Reply.{plain_reply}
use Rattle.celf_run.specs.Allowed.{holding}
use Rattle.celf_run.specs.Answering.{MayBeAdded, AnswersCore, beyond, refused_as_beyond}
use Rattle.celf_run.proofs.judged.answer_core.Goals as goal

pub declare-reply-requires-clause-added : goal.declare-reply-requires-clause-added
declare-reply-requires-clause-added c = subst (λ (x : Core). MayBeAdded (plain_signature c.args.sig.now) (plain_core x)) c.in-Declare.is c.requires.added

pub returns-in-Declare-clause-answered : goal.returns-in-Declare-clause-answered
returns-in-Declare-clause-answered c =
    let old = holding (plain_signature c.args.sig.now) in
    let new = holding (plain_signature c.declare-reply.new.sig) in
    subst (λ (x : Core). IfOk c.declare-reply.result (λ reply. AnswersCore c.args.options.now old c.args.at (plain_core x) (plain_reply reply) new)) (sym c.in-Declare.is) c.declare-reply.ensures.answered

pub returns-in-Equal-clause-answered : goal.returns-in-Equal-clause-answered
returns-in-Equal-clause-answered c =
    let held = holding (plain_signature c.args.sig.now) in
    subst (λ (x : Core). IfOk c.equate-reply.result (λ reply. AnswersCore c.args.options.now held c.args.at (plain_core x) (plain_reply reply) held)) (sym c.in-Equal.is) c.equate-reply.ensures.answered

pub returns-in-Query-clause-answered : goal.returns-in-Query-clause-answered
returns-in-Query-clause-answered c =
    let held = holding (plain_signature c.args.sig.now) in
    subst (λ (x : Core). AnswersCore c.args.options.now held c.args.at (plain_core x) (refused_as_beyond c.args.at) held) (sym c.in-Query.is) (beyond tt)

pub returns-in-Trace-clause-answered : goal.returns-in-Trace-clause-answered
returns-in-Trace-clause-answered c =
    let held = holding (plain_signature c.args.sig.now) in
    subst (λ (x : Core). AnswersCore c.args.options.now held c.args.at (plain_core x) (refused_as_beyond c.args.at) held) (sym c.in-Trace.is) (beyond tt)
