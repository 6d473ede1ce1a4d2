use Rattle.hered_put.proofs.Results.{function_is_sound}
use Rattle.hered_put.proofs.laws.bounded_substitution.Goals as goal

pub returns : goal.returns
returns c = function_is_sound
