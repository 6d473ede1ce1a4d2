use Rattle.std.proofs.Common.{Ok, Err}
use Rattle.clf_syntax.specs.PlainTypes.{plain_kind}
use Rattle.clf_sig.specs.Signature.{plain_signature}
use Rattle.use_contexts.specs.Marks.{context}
use Rattle.clf_kernel.proofs.Stops.{fault_answers}
use Rattle.clf_kernel.proofs.Exactness.{checks-kind}
use Rattle.clf_kernel.proofs.entry.check_kind.Goals as goal

pub returns-in-Ok : goal.returns-in-Ok
returns-in-Ok c = record { exact = checks-kind (plain_signature c.args.sig.now) (context c.args.ctx.now) (plain_kind c.args.kind.now) (Ok tt) c.requires.starts c.in-Ok.ensures }

pub returns-in-Err : goal.returns-in-Err
returns-in-Err c = record {
  exact = checks-kind (plain_signature c.args.sig.now) (context c.args.ctx.now) (plain_kind c.args.kind.now) (Err c.fault.result) c.requires.starts (fault_answers (λ x. x) _ _ _ c.fault.ensures c.in-Err.ensures);
}
