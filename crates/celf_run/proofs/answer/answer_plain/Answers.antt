use Rattle.std.proofs.Common.{subst, Option, option_map}
use Rattle.clf_sig.specs.Signature.{plain_signature}
use Rattle.celf_sugar.specs.Plain.{desugared_item}
use Rattle.celf_replies.specs.declared.reply.Why.{Why}
use Rattle.celf_replies.specs.Reply.{plain_why}
use Rattle.celf_run.specs.Allowed.{by_name, barred}
use Rattle.celf_run.specs.Answering.{NameVerdict}
use Rattle.celf_run.proofs.answer.answer_plain.Goals as goal

pub answer_named-requires-clause-passes : goal.answer_named-requires-clause-passes
answer_named-requires-clause-passes c =
    subst (λ (o : Option Why). NameVerdict (plain_signature c.args.sig.now) (desugared_item c.args.plain.now) (option_map plain_why o)) c.in-Ok-None.field-0-is c.in-Ok-None.ensures

pub returns-in-Ok-Some-clause-allowed : goal.returns-in-Ok-Some-clause-allowed
returns-in-Ok-Some-clause-allowed c =
    let verdict = subst (λ (o : Option Why). NameVerdict (plain_signature c.args.sig.now) (desugared_item c.args.plain.now) (option_map plain_why o)) c.in-Ok-Some.field-0-is c.in-Ok-Some.ensures in
    barred (by_name verdict)
