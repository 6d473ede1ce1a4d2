use Rattle.std.proofs.Common.{◌∙◌, Err, Ok, ap, refl, subst, sym}
use Rattle.std.proofs.lemmas.Result.{err_from_is_err_and}
use Rattle.clf_syntax.specs.Plain.{plain_step}
use Rattle.clf_syntax.specs.PlainTypes.{plain_tele, plain_ty, plain-Monad}
use Rattle.clf_syntax.specs.TypeTree.{monad}
use Rattle.clf_sig.specs.Signature.{plain_signature}
use Rattle.clf_rules.specs.Refusal.{not_monad}
use Rattle.clf_kernel.specs.Answers.{plain_left}
use Rattle.trace_runs.specs.Refused.{at_no_monad}
use Rattle.trace_runs.specs.Run.{PlainState, TakesStep, plain_state}
use Rattle.trace_runs.proofs.Replaying.{at-modes, at-right-side, at-type, fits, may-have, no-monad, pattern-is-refused, right-side-refused, step-is-refused}
use Rattle.trace_runs.proofs.Steps.{step-of}
use Rattle.trace_runs.proofs.step.take_step.Goals as goal

pub returns-in_err-ty : goal.returns-in_err-ty
returns-in_err-ty c =
    let sig = plain_signature c.args.sig.now in
    let s = plain_state c.args.state in
    let p = err_from_is_err_and c.from_residual.result c.from_residual.ensures.1 in
    rw (p.1, p.2) (record {
      exact = right-side-refused sig (plain_step c.args.step.now) s c.in_err-ty.field-0.0 (at-right-side sig c.args.step.now s (Err c.in_err-ty.field-0.0) c.in_err-ty.ensures.exact);
    })

pub returns-in_err-check_pattern-in-Monad : goal.returns-in_err-check_pattern-in-Monad
returns-in_err-check_pattern-in-Monad c =
    let sig = plain_signature c.args.sig.now in
    let s = plain_state c.args.state in
    let x = plain_step c.args.step.now in
    let u = plain_tele c.in-Monad.tele in
    let left = plain_left c.in_ok-ty.field-0.left in
    let found = at-type sig c.args.step.now s (plain_ty c.in_ok-ty.field-0.ty) (monad u) left c.in_ok-ty.ensures.exact (ap plain_ty c.in-Monad.is ∙ plain-Monad c.in-Monad.tele) in
    let p = err_from_is_err_and c.from_residual-in_err-check_pattern-in-Monad.result c.from_residual-in_err-check_pattern-in-Monad.ensures.1 in
    rw (p.1, p.2) (record {
      exact = pattern-is-refused sig x s u (may-have sig x s (monad u) left found) c.in_err-check_pattern-in-Monad.field-0.0
          (at-modes sig c.args.step.now s c.as_slice.result.now u (Err c.in_err-check_pattern-in-Monad.field-0.0) c.as_slice.ensures c.in_err-check_pattern-in-Monad.ensures.exact);
    })

pub returns-in_ok-entered-in-Monad : goal.returns-in_ok-entered-in-Monad
returns-in_ok-entered-in-Monad c =
    let sig = plain_signature c.args.sig.now in
    let s = plain_state c.args.state in
    let x = plain_step c.args.step.now in
    let u = plain_tele c.in-Monad.tele in
    let left = plain_left c.in_ok-ty.field-0.left in
    let found = at-type sig c.args.step.now s (plain_ty c.in_ok-ty.field-0.ty) (monad u) left c.in_ok-ty.ensures.exact (ap plain_ty c.in-Monad.is ∙ plain-Monad c.in-Monad.tele) in
    let pattern = at-modes sig c.args.step.now s c.as_slice.result.now u (Ok tt) c.as_slice.ensures c.in_ok-check_pattern-in-Monad.ensures.exact in
    record {
      exact = subst (λ (a : PlainState). TakesStep sig x.0 x.1 s a) (sym c.in_ok-entered-in-Monad.ensures.state) (step-of sig x.0 x.1 s u left c.requires.starts.marked found (fits x.0 u pattern));
    }

pub returns-in-Fam : goal.returns-in-Fam
returns-in-Fam c =
    let sig = plain_signature c.args.sig.now in
    let s = plain_state c.args.state in
    let x = plain_step c.args.step.now in
    let a = plain_ty c.in_ok-ty.field-0.ty in
    let left = plain_left c.in_ok-ty.field-0.left in
    let found = at-type sig c.args.step.now s a a left c.in_ok-ty.ensures.exact refl in
    record {
      exact = step-is-refused sig x s (not_monad a) (at_no_monad (may-have sig x s a left found) (no-monad c.in_ok-ty.field-0.ty c.in-Fam.is)) c.refuse.result c.refuse.ensures;
    }
