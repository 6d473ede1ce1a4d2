use Rattle.clf_rules.proofs.OneType.{type_is_one}
use Rattle.typing_laws.proofs.laws.one_type.Goals as goal

pub returns : goal.returns
returns c = type_is_one
