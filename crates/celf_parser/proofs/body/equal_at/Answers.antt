use Rattle.std.proofs.Common.{rules}
use Rattle.celf_grammar.specs.Grammar.{body_equal}
use Rattle.celf_lexer.specs.declared.token.TokenKind.TheVariants as token
use Rattle.celf_cursor.proofs.Faulty.{expect-missed, passed, refused}
use Rattle.celf_parser.proofs.BodyFaults.{formed-fault}
use Rattle.celf_parser.proofs.Items.{unboxed-read}
use Rattle.celf_parser.proofs.TypeFaults.{stop-fault}
use Rattle.celf_parser.proofs.body.equal_at.Goals as goal

pub returns-clause-read : goal.returns-clause-read
returns-clause-read c s h = body_equal h (unboxed-read c.into_inner-left.ensures c.in_ok-left.ensures.read) c.in_ok-equals.ensures.taken (unboxed-read c.into_inner-right.ensures c.in_ok-right.ensures.read) c.in_ok-colon.ensures.taken c.in_ok-ty.ensures.read

pub returns-in_err-left : goal.returns-in_err-left
returns-in_err-left c =
    let r = c.from_residual.result in
    let e = c.from_residual.ensures.1 in
    record { read = refused _ _ r e; name = refused _ _ r e; cursor = refused _ _ r e; further = refused _ _ r e; fault = passed _ r e (λ k. c.in_err-left.ensures.fault _) }

pub returns-in_err-equals : goal.returns-in_err-equals
returns-in_err-equals c =
    let r = c.from_residual-in_err-equals.result in
    let e = c.from_residual-in_err-equals.ensures.1 in
    record { read = refused _ _ r e; name = refused _ _ r e; cursor = refused _ _ r e; further = refused _ _ r e; fault = passed _ r e (λ k. formed-fault c.in_ok-left.ensures.read (expect-missed _ _ token.Equals _ _ c.in_ok-left.ensures.cursor c.in_err-equals.ensures.missed)) }

pub returns-in_err-right : goal.returns-in_err-right
returns-in_err-right c =
    let r = c.from_residual-in_err-right.result in
    let e = c.from_residual-in_err-right.ensures.1 in
    record { read = refused _ _ r e; name = refused _ _ r e; cursor = refused _ _ r e; further = refused _ _ r e; fault = passed _ r e (λ k. formed-fault c.in_ok-left.ensures.read (stop-fault c.in_ok-equals.ensures.taken (c.in_err-right.ensures.fault _))) }

pub returns-in_err-colon : goal.returns-in_err-colon
returns-in_err-colon c =
    let r = c.from_residual-in_err-colon.result in
    let e = c.from_residual-in_err-colon.ensures.1 in
    record { read = refused _ _ r e; name = refused _ _ r e; cursor = refused _ _ r e; further = refused _ _ r e; fault = passed _ r e (λ k. formed-fault c.in_ok-left.ensures.read (stop-fault c.in_ok-equals.ensures.taken (formed-fault c.in_ok-right.ensures.read (expect-missed _ _ token.Colon _ _ c.in_ok-right.ensures.cursor c.in_err-colon.ensures.missed)))) }

pub returns-in_err-ty : goal.returns-in_err-ty
returns-in_err-ty c =
    let r = c.from_residual-in_err-ty.result in
    let e = c.from_residual-in_err-ty.ensures.1 in
    record { read = refused _ _ r e; name = refused _ _ r e; cursor = refused _ _ r e; further = refused _ _ r e; fault = passed _ r e (λ k. formed-fault c.in_ok-left.ensures.read (stop-fault c.in_ok-equals.ensures.taken (formed-fault c.in_ok-right.ensures.read (stop-fault c.in_ok-colon.ensures.taken (c.in_err-ty.ensures.fault _))))) }

pub take-requires-clause-cursor : goal.take-requires-clause-cursor
take-requires-clause-cursor c = search rules

pub take-requires-clause-kind : goal.take-requires-clause-kind
take-requires-clause-kind c = search rules

pub take-requires-2-clause-cursor : goal.take-requires-2-clause-cursor
take-requires-2-clause-cursor c = search rules

pub take-requires-2-clause-kind : goal.take-requires-2-clause-kind
take-requires-2-clause-kind c = search rules
