use Rattle.celf_grammar.specs.Grammar.{body_trace}
use Rattle.celf_parser.proofs.BodyFaults.{bounded-fault}
use Rattle.celf_cursor.proofs.Faulty.{passed}
use Rattle.celf_parser.proofs.body.trace_at.Goals as goal

pub returns-clause-read : goal.returns-clause-read
returns-clause-read c s h = body_trace h c.in_ok-n.ensures.read c.in_ok-ty.ensures.read

pub returns-in_err-n-clause-fault : goal.returns-in_err-n-clause-fault
returns-in_err-n-clause-fault c =
    passed _ c.from_residual.result c.from_residual.ensures.1 (λ k. c.in_err-n.ensures.fault _)

pub returns-in_err-ty-clause-fault : goal.returns-in_err-ty-clause-fault
returns-in_err-ty-clause-fault c =
    passed _ c.from_residual-in_err-ty.result c.from_residual-in_err-ty.ensures.1 (λ k. bounded-fault c.in_ok-n.ensures.read (c.in_err-ty.ensures.fault _))
