use Rattle.std.proofs.Common.{ap, sym, ◌∙◌}
use Rattle.clf_syntax.specs.Plain.{plain_obj}
use Rattle.hered_put.specs.Function.{made, value}
use Rattle.hered_put.proofs.Environments.{put-made, put-far}
use Rattle.hered_put.proofs.head.shifted.Goals as goal

pub returns-in-Ok : goal.returns-in-Ok
returns-in-Ok c =
    put-made c.args.binders (plain_obj c.args.obj.now) c.in-Ok.ensures.1 ∙ ap (λ x. made (value x)) (sym c.in-Ok.ensures.0)

pub returns-in-Err-Fault : goal.returns-in-Err-Fault
returns-in-Err-Fault c =
    let far = rw c.in-Err-Fault.field-0-is at c.in-Err-Fault.ensures in
    put-far c.args.binders (plain_obj c.args.obj.now) far
