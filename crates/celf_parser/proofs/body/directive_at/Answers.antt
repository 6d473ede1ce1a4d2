use Rattle.std.proofs.Common.{rules}
use Rattle.celf_cursor.proofs.Faulty.{passed, refused}
use Rattle.celf_parser.proofs.BodyFaults.{query-fault, trace-fault, equal-fault, check-fault, directive_faults}
use Rattle.celf_parser.proofs.body.directive_at.Goals as goal

pub returns-in_err-query_at : goal.returns-in_err-query_at
returns-in_err-query_at c =
    let r = c.from_residual.result in
    let e = c.from_residual.ensures.1 in
    record { read = refused _ _ r e; name = refused _ _ r e; cursor = refused _ _ r e; further = refused _ _ r e; fault = passed _ r e (λ k. query-fault c.in-Ok.ensures.taken c.in_err-query_at.ensures.fault) }

pub returns-in_err-trace_at : goal.returns-in_err-trace_at
returns-in_err-trace_at c =
    let r = c.from_residual-in_err-trace_at.result in
    let e = c.from_residual-in_err-trace_at.ensures.1 in
    record { read = refused _ _ r e; name = refused _ _ r e; cursor = refused _ _ r e; further = refused _ _ r e; fault = passed _ r e (λ k. trace-fault c.in-Ok-take_directive.ensures.taken c.in_err-trace_at.ensures.fault) }

pub returns-in_err-equal_at : goal.returns-in_err-equal_at
returns-in_err-equal_at c =
    let r = c.from_residual-in_err-equal_at.result in
    let e = c.from_residual-in_err-equal_at.ensures.1 in
    record { read = refused _ _ r e; name = refused _ _ r e; cursor = refused _ _ r e; further = refused _ _ r e; fault = passed _ r e (λ k. equal-fault c.in-Ok-take_directive-2.ensures.taken c.in_err-equal_at.ensures.fault) }

pub returns-in_err-check_at : goal.returns-in_err-check_at
returns-in_err-check_at c =
    let r = c.from_residual-in_err-check_at.result in
    let e = c.from_residual-in_err-check_at.ensures.1 in
    record { read = refused _ _ r e; name = refused _ _ r e; cursor = refused _ _ r e; further = refused _ _ r e; fault = passed _ r e (λ k. check-fault c.in-Ok-take_directive-3.ensures.taken c.in_err-check_at.ensures.fault) }

pub returns-in-Ok : goal.returns-in-Ok
returns-in-Ok c = search (rules, directive_faults)

pub returns-in-Ok-take_directive : goal.returns-in-Ok-take_directive
returns-in-Ok-take_directive c = search (rules, directive_faults)

pub returns-in-Ok-take_directive-2 : goal.returns-in-Ok-take_directive-2
returns-in-Ok-take_directive-2 c = search (rules, directive_faults)

pub returns-in-Ok-take_directive-3 : goal.returns-in-Ok-take_directive-3
returns-in-Ok-take_directive-3 c = search (rules, directive_faults)

pub returns : goal.returns
returns c = search (rules, directive_faults)
