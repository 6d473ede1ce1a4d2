use Rattle.std.proofs.Common.{Ok, Err}
use Rattle.clf_syntax.specs.Plain.{plain_neutral}
use Rattle.clf_sig.specs.Signature.{plain_signature}
use Rattle.use_contexts.specs.Marks.{context, marks}
use Rattle.clf_kernel.specs.Answers.{plain_inferred}
use Rattle.clf_kernel.proofs.Stops.{fault_answers, marked_length}
use Rattle.clf_kernel.proofs.Exactness.{infers-neutral}
use Rattle.clf_kernel.proofs.object.infer.Goals as goal

pub infer_in_copy-requires : goal.infer_in_copy-requires
infer_in_copy-requires c = marked_length (context c.args.ctx.now) (marks c.args.holding.now) c.requires.starts.marked

pub returns-in-Ok : goal.returns-in-Ok
returns-in-Ok c =
    record {
      exact = infers-neutral (plain_signature c.args.sig.now) (context c.args.ctx.now) (marks c.args.holding.now) (plain_neutral c.args.neutral.now) (Ok c.in-Ok.found)
          c.requires.starts c.in-Ok.ensures;
    }

pub returns-in-Err : goal.returns-in-Err
returns-in-Err c =
    record {
      exact = infers-neutral (plain_signature c.args.sig.now) (context c.args.ctx.now) (marks c.args.holding.now) (plain_neutral c.args.neutral.now) (Err c.fault.result)
          c.requires.starts (fault_answers plain_inferred _ _ _ c.fault.ensures c.in-Err.ensures);
    }
