use Rattle.metavars.specs.Outcomes.{plain_value, NoPair, IsNoPair}
use Rattle.metavars.proofs.Values.{refused-by, other-no-pair}
use Rattle.metavars.proofs.value.parts.Goals as goal

pub returns-in_err-parts-in-With : goal.returns-in_err-parts-in-With
returns-in_err-parts-in-With c =
    let f = plain_value c.args.value in
    refused-by (IsNoPair f.0) (NoPair f) _ _ _ c.from_residual.ensures.1 (other-no-pair f.0 f.1) c.in_err-parts-in-With.ensures
