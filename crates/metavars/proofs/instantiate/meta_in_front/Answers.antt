use Rattle.std.proofs.Common.{◌∙◌, ⊎_elim}
use Rattle.clf_syntax.specs.Plain.{plain_neutral}
use Rattle.hered_put.proofs.StepPieces.{head-plain}
use Rattle.metavars.proofs.Values.{const-no_meta, var-no_meta}
use Rattle.metavars.proofs.instantiate.meta_in_front.Goals as goal

pub returns-in_ok-step_in_front-in-Meta : goal.returns-in_ok-step_in_front-in-Meta
returns-in_ok-step_in_front-in-Meta c = (c.in-Meta.field-0, head-plain c.args.rhs ∙ c.in-Meta.is, c.in_ok-step_in_front-in-Meta.ensures)

pub returns-in-Const : goal.returns-in-Const
returns-in-Const c = ⊎_elim
    (λ h. const-no_meta (plain_neutral c.args.rhs) h.0 (head-plain c.args.rhs ∙ h.1))
    (λ h. var-no_meta (plain_neutral c.args.rhs) h.0 (head-plain c.args.rhs ∙ h.1))
    c.in-Const.is
