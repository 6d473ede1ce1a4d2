use Rattle.std.proofs.Common.{Ok, Err}
use Rattle.clf_sig.specs.Signature.{plain_entry, plain_signature}
use Rattle.clf_kernel.proofs.Stops.{fault_answers}
use Rattle.clf_kernel.proofs.Exactness.{checks-entry}
use Rattle.clf_kernel.proofs.entry.check_entry.Goals as goal

pub returns-in-Ok : goal.returns-in-Ok
returns-in-Ok c = record { exact = checks-entry (plain_signature c.args.sig.now) (plain_entry c.args.entry.now) (Ok tt) c.requires.starts c.in-Ok.ensures }

pub returns-in-Err : goal.returns-in-Err
returns-in-Err c = record {
  exact = checks-entry (plain_signature c.args.sig.now) (plain_entry c.args.entry.now) (Err c.fault.result) c.requires.starts (fault_answers (λ x. x) _ _ _ c.fault.ensures c.in-Err.ensures);
}
