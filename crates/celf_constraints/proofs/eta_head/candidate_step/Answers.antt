use Rattle.std.proofs.Common.{◌∙◌, ap, sym, arith}
use Rattle.clf_syntax.specs.declared.tree.Step.{out-Step}
use Rattle.celf_constraints.specs.Candidate.{variable_of}
use Rattle.celf_constraints.proofs.Candidates.{expr_first, expr_empty}
use Rattle.celf_constraints.proofs.eta_head.candidate_step.Goals as goal

pub returns-then-steps-eq0 : goal.returns-then-steps-eq0
returns-then-steps-eq0 c = expr_empty c.args.expr.now c.as_slice-steps.result.now c.as_slice-steps.ensures c.if-steps-eq0.true

pub returns : goal.returns
returns c =
    let s = c.index-steps-0.result in
    c.variable_of.ensures ∙ ap (λ z. variable_of (out-Step z).rhs.head) (sym c.index-steps-0.is)
    ∙ expr_first c.args.expr.now c.as_slice-steps.result.now s c.as_slice-steps.ensures (omega (arith, c.if-steps-eq0.false)) c.index-steps-0.is
