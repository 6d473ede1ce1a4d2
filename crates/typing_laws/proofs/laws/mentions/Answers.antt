use Rattle.typing_laws.proofs.Mentioned.{mentions_held_alone}
use Rattle.typing_laws.proofs.laws.mentions.Goals as goal

pub returns : goal.returns
returns c = mentions_held_alone
