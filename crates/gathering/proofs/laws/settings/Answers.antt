use Rattle.gathering.proofs.SignatureSetting.{setting_of_signature}
use Rattle.gathering.proofs.laws.settings.Goals as goal

pub returns : goal.returns
returns c = setting_of_signature
