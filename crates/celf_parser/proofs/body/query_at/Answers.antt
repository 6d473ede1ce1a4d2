use Rattle.celf_grammar.specs.Grammar.{body_query}
use Rattle.celf_parser.proofs.BodyFaults.{bounded-fault}
use Rattle.celf_cursor.proofs.Faulty.{passed, refused}
use Rattle.celf_parser.proofs.body.query_at.Goals as goal

pub returns-clause-read : goal.returns-clause-read
returns-clause-read c s h = body_query h c.in_ok-d.ensures.read c.in_ok-e.ensures.read c.in_ok-l.ensures.read c.in_ok-a.ensures.read c.in_ok-ty.ensures.read

pub returns-in_err-d : goal.returns-in_err-d
returns-in_err-d c =
    let r = c.from_residual.result in
    let e = c.from_residual.ensures.1 in
    record { read = refused _ _ r e; name = refused _ _ r e; cursor = refused _ _ r e; further = refused _ _ r e; fault = passed _ r e (λ k. c.in_err-d.ensures.fault _) }

pub returns-in_err-e : goal.returns-in_err-e
returns-in_err-e c =
    let r = c.from_residual-in_err-e.result in
    let e = c.from_residual-in_err-e.ensures.1 in
    record { read = refused _ _ r e; name = refused _ _ r e; cursor = refused _ _ r e; further = refused _ _ r e; fault = passed _ r e (λ k. bounded-fault c.in_ok-d.ensures.read (c.in_err-e.ensures.fault _)) }

pub returns-in_err-l : goal.returns-in_err-l
returns-in_err-l c =
    let r = c.from_residual-in_err-l.result in
    let e = c.from_residual-in_err-l.ensures.1 in
    record { read = refused _ _ r e; name = refused _ _ r e; cursor = refused _ _ r e; further = refused _ _ r e; fault = passed _ r e (λ k. bounded-fault c.in_ok-d.ensures.read (bounded-fault c.in_ok-e.ensures.read (c.in_err-l.ensures.fault _))) }

pub returns-in_err-a : goal.returns-in_err-a
returns-in_err-a c =
    let r = c.from_residual-in_err-a.result in
    let e = c.from_residual-in_err-a.ensures.1 in
    record { read = refused _ _ r e; name = refused _ _ r e; cursor = refused _ _ r e; further = refused _ _ r e; fault = passed _ r e (λ k. bounded-fault c.in_ok-d.ensures.read (bounded-fault c.in_ok-e.ensures.read (bounded-fault c.in_ok-l.ensures.read (c.in_err-a.ensures.fault _)))) }

pub returns-in_err-ty : goal.returns-in_err-ty
returns-in_err-ty c =
    let r = c.from_residual-in_err-ty.result in
    let e = c.from_residual-in_err-ty.ensures.1 in
    record { read = refused _ _ r e; name = refused _ _ r e; cursor = refused _ _ r e; further = refused _ _ r e; fault = passed _ r e (λ k. bounded-fault c.in_ok-d.ensures.read (bounded-fault c.in_ok-e.ensures.read (bounded-fault c.in_ok-l.ensures.read (bounded-fault c.in_ok-a.ensures.read (c.in_err-ty.ensures.fault _))))) }
