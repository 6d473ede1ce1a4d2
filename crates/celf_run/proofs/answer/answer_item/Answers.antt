use Rattle.clf_sig.specs.Signature.{plain_signature}
use Rattle.celf_surface.specs.Surface.{written_item}
use Rattle.celf_sugar.specs.Plain.{desugared_item}
use Rattle.celf_run.proofs.Answering.{may-be-declared, plainly-answers, sugar-answers}
use Rattle.celf_run.proofs.answer.answer_item.Goals as goal

pub answer_plain-reply-requires-clause-name : goal.answer_plain-reply-requires-clause-name
answer_plain-reply-requires-clause-name c = may-be-declared (written_item c.args.item.now) (desugared_item c.in-Ok.plain) c.in-Ok.ensures.plain c.in-Ok.ensures.clean c.requires.name

pub returns-in-Ok-clause-allowed : goal.returns-in-Ok-clause-allowed
returns-in-Ok-clause-allowed c =
    plainly-answers c.args.options.now (plain_signature c.args.sig.now) (plain_signature c.answer_plain-reply.new.sig) (written_item c.args.item.now) (desugared_item c.in-Ok.plain)
    c.answer_plain-reply.result c.in-Ok.ensures.clean c.in-Ok.ensures.plain c.answer_plain-reply.ensures.allowed

pub returns-in-Err-clause-allowed : goal.returns-in-Err-clause-allowed
returns-in-Err-clause-allowed c =
    sugar-answers c.args.options.now (plain_signature c.args.sig.now) (written_item c.args.item.now) c.in-Err.fault c.sugar_refusal.result
    c.in-Err.ensures.fault c.sugar_refusal.ensures.memory c.sugar_refusal.ensures.refusal
