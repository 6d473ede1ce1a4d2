use Rattle.clf_rules.proofs.Longer.{longer_signatures}
use Rattle.clf_rules.proofs.laws.longer_signatures.Goals as goal

pub returns : goal.returns
returns c = longer_signatures
