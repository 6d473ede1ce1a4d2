use Rattle.clf_syntax.specs.Plain.{plain_neutral}
use Rattle.clf_simple.proofs.Raising.{closed_refused, closed_written}
use Rattle.clf_simple.proofs.expansion.raise_closed.Goals as goal

pub returns-in_err-raised : goal.returns-in_err-raised
returns-in_err-raised c = closed_refused (plain_neutral c.args.neutral.now) c.in_err-raised.field-0.0 c.from_residual.result c.in_err-raised.ensures c.from_residual.ensures.1

pub returns : goal.returns
returns c = closed_written (plain_neutral c.args.neutral.now) (plain_neutral c.in_ok-raised.raised) c.shift-2.result c.in_ok-raised.ensures.0 c.shift-2.ensures
