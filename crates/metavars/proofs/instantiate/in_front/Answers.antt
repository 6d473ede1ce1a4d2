use Rattle.std.proofs.Common.{subst, sym}
use Rattle.hered_put.specs.Outcomes.{plain_rest}
use Rattle.metavars.specs.Outcomes.{InFront}
use Rattle.metavars.proofs.instantiate.in_front.Goals as goal

pub returns-in_ok-step_in_front-in-Kept : goal.returns-in_ok-step_in_front-in-Kept
returns-in_ok-step_in_front-in-Kept c = subst (λ o. InFront c.args.modes.now o (plain_rest c.args.rest) (plain_rest c.in_ok-step_in_front-in-Kept.field-0)) (sym c.in-Kept.is) c.in_ok-step_in_front-in-Kept.ensures
