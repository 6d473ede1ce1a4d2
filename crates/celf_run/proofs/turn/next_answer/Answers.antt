use Rattle.std.proofs.Common.{sym, subst, Option, length}
use Rattle.std.specs.Prelude.{IfSome}
use Rattle.clf_sig.specs.Signature.{plain_signature}
use Rattle.celf_surface.specs.declared.surface.Item.{Item}
use Rattle.celf_surface.specs.Surface.{written_item}
use Rattle.celf_parser.specs.Place.{IsItemAt}
use Rattle.celf_replies.specs.Reply.{PlainReply, refused}
use Rattle.celf_run.specs.Source.{written, faulty, syntax_refusal, next_item, next_fault}
use Rattle.celf_run.specs.Allowed.{holding, at_fault}
use Rattle.celf_run.specs.Turning.{place_in, Answers}
use Rattle.celf_run.proofs.turn.next_answer.Goals as goal

pub returns-in_ok-reply-in-Ok-Some-clause-answered : goal.returns-in_ok-reply-in-Ok-Some-clause-answered
returns-in_ok-reply-in-Ok-Some-clause-answered c =
    let stands = subst (λ (o : Option Item). IfSome o (λ item. IsItemAt c.args.bytes.now c.args.at (written_item item))) c.in-Ok-Some.field-0-is c.in-Ok-Some.ensures.item in
    record { task = written (written_item c.in-Ok-Some.item); next = next_item stands; allowed = c.in_ok-reply-in-Ok-Some.ensures.allowed }

pub returns-in_ok-reply-in-Err-clause-answered : goal.returns-in_ok-reply-in-Err-clause-answered
returns-in_ok-reply-in-Err-clause-answered c =
    let text = c.args.bytes.now in
    let held = holding (plain_signature c.args.sig.now) in
    let refusal = syntax_refusal text c.in-Err.fault in
    let told : Answers c.args.options.now (place_in text c.args.at) held (refused refusal) (place_in text (length text)) held =
    record { task = faulty refusal; next = next_fault c.in-Err.fault (c.in-Err.ensures.fault c.in_ok-reply-in-Err.ensures.memory); allowed = at_fault } in
    subst (λ (r : PlainReply). Answers c.args.options.now (place_in text c.args.at) held r (place_in text (length text)) held) (sym c.in_ok-reply-in-Err.ensures.refusal) told
