use Rattle.std.proofs.Common.{rules}
use Rattle.celf_grammar.specs.Grammar.{body_declare}
use Rattle.celf_lexer.specs.declared.token.TokenKind.TheVariants as token
use Rattle.celf_cursor.proofs.Faulty.{expect-missed, passed, refused}
use Rattle.celf_parser.proofs.BodyFaults.{declared_name-fault, declared-fault, counted-fault}
use Rattle.celf_parser.proofs.TypeFaults.{stop-fault}
use Rattle.celf_parser.proofs.Names.{name_steps}
use Rattle.celf_parser.proofs.body.declaration_at.Goals as goal

pub returns-clause-read : goal.returns-clause-read
returns-clause-read c = body_declare c.in_ok-name.ensures.taken c.in_ok-colon.ensures.taken c.in_ok-implicit.ensures.read c.in_ok-ty.ensures.read

pub returns-in_err-name : goal.returns-in_err-name
returns-in_err-name c =
    let r = c.from_residual.result in
    let e = c.from_residual.ensures.1 in
    record { read = refused _ _ r e; name = refused _ _ r e; cursor = refused _ _ r e; further = refused _ _ r e; fault = passed _ r e (λ k. declared_name-fault _ _ k _ c.requires.cursor c.requires.kind c.in_err-name.ensures.missed) }

pub returns-in_err-colon : goal.returns-in_err-colon
returns-in_err-colon c =
    let r = c.from_residual-in_err-colon.result in
    let e = c.from_residual-in_err-colon.ensures.1 in
    record { read = refused _ _ r e; name = refused _ _ r e; cursor = refused _ _ r e; further = refused _ _ r e; fault = passed _ r e (λ k. declared-fault c.in_ok-name.ensures.taken (expect-missed _ _ token.Colon _ _ c.in_ok-name.ensures.cursor c.in_err-colon.ensures.missed)) }

pub returns-in_err-implicit : goal.returns-in_err-implicit
returns-in_err-implicit c =
    let r = c.from_residual-in_err-implicit.result in
    let e = c.from_residual-in_err-implicit.ensures.1 in
    record { read = refused _ _ r e; name = refused _ _ r e; cursor = refused _ _ r e; further = refused _ _ r e; fault = passed _ r e (λ k. declared-fault c.in_ok-name.ensures.taken (stop-fault c.in_ok-colon.ensures.taken (c.in_err-implicit.ensures.fault _))) }

pub returns-in_err-ty : goal.returns-in_err-ty
returns-in_err-ty c =
    let r = c.from_residual-in_err-ty.result in
    let e = c.from_residual-in_err-ty.ensures.1 in
    record { read = refused _ _ r e; name = refused _ _ r e; cursor = refused _ _ r e; further = refused _ _ r e; fault = passed _ r e (λ k. declared-fault c.in_ok-name.ensures.taken (stop-fault c.in_ok-colon.ensures.taken (counted-fault c.in_ok-implicit.ensures.read (c.in_err-ty.ensures.fault _)))) }

pub take-requires-clause-cursor : goal.take-requires-clause-cursor
take-requires-clause-cursor c = search (rules, name_steps)

pub take-requires-clause-kind : goal.take-requires-clause-kind
take-requires-clause-kind c = search (rules, name_steps)
