use Rattle.std.proofs.Common.{◌≡◌, subst, sym, Option}
use Rattle.std.specs.Prelude.{IfSome, IfNone}
use Rattle.clf_sig.specs.Signature.{plain_signature}
use Rattle.celf_replies.specs.Reply.{plain_reply}
use Rattle.celf_run.specs.declared.turn.Answer.{Answer}
use Rattle.celf_run.specs.declared.status.Status.{Status}
use Rattle.celf_run.specs.Source.{IsOver}
use Rattle.celf_run.specs.Allowed.{holding}
use Rattle.celf_run.specs.Turning.{place_in, Answers, Finishes}
use Rattle.celf_run.proofs.Turns.{finishes-over, finishes-given_up, turns}
use Rattle.celf_run.proofs.turn.next_turn.Goals as goal

pub returns-in-Ok-None-clause-turned : goal.returns-in-Ok-None-clause-turned
returns-in-Ok-None-clause-turned g c =
    let source = place_in c.args.bytes.now c.args.at in
    let over = subst (λ (o : Option Answer). IfNone o (IsOver source × (c.next_answer.new.sig ≡ c.args.sig.now))) c.in-Ok-None.field-0-is c.in-Ok-None.ensures.over in
    finishes-over c.args.options.now source (plain_signature c.args.sig.now) _ c.requires.formed over.0

pub returns-in-Ok-Some-clause-turned : goal.returns-in-Ok-Some-clause-turned
returns-in-Ok-Some-clause-turned g c =
    let old = plain_signature c.args.sig.now in
    let new = plain_signature c.next_answer.new.sig in
    let text = c.args.bytes.now in
    let answers = subst (λ (o : Option Answer). IfSome o (λ answer. Answers c.args.options.now (place_in text c.args.at) (holding old) (plain_reply answer.reply) (place_in text answer.end) (holding new)))
    c.in-Ok-Some.field-0-is c.in-Ok-Some.ensures.answered in
    turns c.args.options.now text c.args.at c.in-Ok-Some.answer.end old new (plain_reply c.in-Ok-Some.answer.reply) _ _ c.tell-turn.result c.requires.formed c.in-Ok-Some.ensures.formed answers c.tell-turn.ensures.wrote

pub returns-in-Err-clause-turned : goal.returns-in-Err-clause-turned
returns-in-Err-clause-turned g c =
    let source = place_in c.args.bytes.now c.args.at in
    let held = holding (plain_signature c.args.sig.now) in
    let w = g.W.Sink.written c.args.out.now in
    subst (λ (s : Status). Finishes c.args.options.now source held w w s) (sym c.given_up.ensures) (finishes-given_up c.args.options.now source held w c.in-Err.want)
