use Rattle.std.proofs.Common.{◌+◌, ap, sym, subst, ◌∙◌, length}
use Rattle.clf_decision.specs.Outcome.{at_part}
use Rattle.clf_decision.specs.Checking.{with_slack}
use Rattle.clf_kernel.specs.Answers.{plain_left}
use Rattle.clf_kernel.specs.Stops.{Stops}
use Rattle.clf_kernel.specs.Trail.{closed_modes}
use Rattle.clf_kernel.proofs.Stops.{part_stops, then_stops}
use Rattle.clf_kernel.proofs.trail.close_step.Goals as goal

pub returns-after-opened-clause-marked : goal.returns-after-opened-clause-marked
returns-after-opened-clause-marked c = λ n r. c.in-Ok.ensures.marked n (r ∙ ap (λ ms. n + length ms) (sym c.as_slice.ensures))

pub returns-in-Err-clause-outcome : goal.returns-in-Err-clause-outcome
returns-in-Err-clause-outcome c = λ n r.
    let a = plain_left c.args.left in
    let ms = c.args.opened.now.modes in
    let o = c.in-Err.ensures.outcome n (r ∙ ap (λ ks. n + length ks) (sym c.as_slice.ensures)) in
    then_stops (at_part c.args.place (closed_modes ms n a)) (with_slack c.args.opened.now.slack) c.from_part.result
    (part_stops (closed_modes ms n a) c.args.place c.in-Err.stop c.from_part.result c.from_part.ensures (subst (λ ks. Stops (closed_modes ks n a) c.in-Err.stop) c.as_slice.ensures o))
