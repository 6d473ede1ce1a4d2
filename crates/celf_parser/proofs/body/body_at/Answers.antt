use Rattle.std.proofs.Common.{◌∙◌}
use Rattle.celf_cursor.proofs.Faulty.{passed, refused}
use Rattle.celf_parser.proofs.BodyFaults.{undirected-fault}
use Rattle.celf_parser.proofs.body.body_at.Goals as goal

pub returns-in_err-declaration_at-in_default : goal.returns-in_err-declaration_at-in_default
returns-in_err-declaration_at-in_default c =
    let r = c.from_residual.result in
    let e = c.from_residual.ensures.1 in
    record {
      read = refused _ _ r e;
      name = refused _ _ r e;
      cursor = refused _ _ r e;
      further = refused _ _ r e;
      fault = passed _ r e (λ k. undirected-fault (λ d. c.in_default.not-Directive (c.kind_of_next.ensures ∙ d)) (c.in_err-declaration_at-in_default.ensures.fault k));
    }
