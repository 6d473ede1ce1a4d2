use Rattle.std.proofs.Common.{ap, ◌∙◌}
use Rattle.std.proofs.lemmas.Result.{IfOk-weaker}
use Rattle.clf_syntax.specs.Plain.{plain_obj}
use Rattle.reach_walk.specs.Marks.{marked_in}
use Rattle.celf_reach.proofs.Masking.{marked_single}
use Rattle.celf_reach.proofs.marks.occurs.Goals as goal

pub returns : goal.returns
returns c = IfOk-weaker c.marked_in.result _ _
    (λ b h. h ∙ ap (λ bs. marked_in bs 0 (plain_obj c.args.obj.now)) c.as_slice.ensures.value ∙ marked_single c.in_ok-marks.marks.items c.args.local (plain_obj c.args.obj.now) c.in_ok-marks.ensures) c.marked_in.ensures
