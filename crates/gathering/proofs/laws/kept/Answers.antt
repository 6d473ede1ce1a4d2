use Rattle.gathering.proofs.Becoming.{gathering_is_kept}
use Rattle.gathering.proofs.laws.kept.Goals as goal

pub returns : goal.returns
returns c = gathering_is_kept
