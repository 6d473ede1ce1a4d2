use Rattle.std.proofs.Common.{ap, sym, ◌∙◌, ⊎_elim}
use Rattle.clf_syntax.specs.Plain.{plain_neutral}
use Rattle.hered_put.specs.Function.{made}
use Rattle.hered_put.proofs.StepPieces.{head-plain, neutral-meta, neutral-const, neutral-var}
use Rattle.hered_put.proofs.step.neutral_in_place.Goals as goal

pub returns-in_ok-stays-in-Meta : goal.returns-in_ok-stays-in-Meta
returns-in_ok-stays-in-Meta c = neutral-meta c.args.modes.now (plain_neutral c.args.rhs) c.in-Meta.field-0 (head-plain c.args.rhs ∙ c.in-Meta.is) ∙ ap made (sym c.in_ok-stays-in-Meta.ensures)

pub returns-in-Const : goal.returns-in-Const
returns-in-Const c = ⊎_elim
    (λ h. neutral-const c.args.modes.now (plain_neutral c.args.rhs) h.0 (head-plain c.args.rhs ∙ h.1))
    (λ h. neutral-var c.args.modes.now (plain_neutral c.args.rhs) h.0 (head-plain c.args.rhs ∙ h.1))
    c.in-Const.is
