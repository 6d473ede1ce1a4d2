use Rattle.std.proofs.Common.{Ok, Err}
use Rattle.clf_syntax.specs.Plain.{plain_obj}
use Rattle.clf_syntax.specs.PlainTypes.{plain_ty}
use Rattle.clf_sig.specs.Signature.{plain_signature}
use Rattle.use_contexts.specs.Marks.{context, marks}
use Rattle.clf_kernel.specs.Answers.{plain_left}
use Rattle.clf_kernel.proofs.Stops.{fault_answers, marked_length}
use Rattle.clf_kernel.proofs.Exactness.{checks-object}
use Rattle.clf_kernel.proofs.object.check_object.Goals as goal

pub check_in_copy-requires : goal.check_in_copy-requires
check_in_copy-requires c = marked_length (context c.args.ctx.now) (marks c.args.holding.now) c.requires.starts.marked

pub returns-in-Ok : goal.returns-in-Ok
returns-in-Ok c =
    record {
      exact = checks-object (plain_signature c.args.sig.now) (context c.args.ctx.now) (marks c.args.holding.now) (plain_obj c.args.obj.now) (plain_ty c.args.ty.now) (Ok c.in-Ok.left)
          c.requires.starts c.requires.formed c.in-Ok.ensures;
    }

pub returns-in-Err : goal.returns-in-Err
returns-in-Err c =
    record {
      exact = checks-object (plain_signature c.args.sig.now) (context c.args.ctx.now) (marks c.args.holding.now) (plain_obj c.args.obj.now) (plain_ty c.args.ty.now) (Err c.fault.result)
          c.requires.starts c.requires.formed (fault_answers plain_left _ _ _ c.fault.ensures c.in-Err.ensures);
    }
