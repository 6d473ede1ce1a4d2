use Rattle.hered_put.proofs.Results.{flattened_is_sound, flattened_is_typed}
use Rattle.hered_put.proofs.laws.flattened_substitution.Goals as goal

pub returns-clause-sound : goal.returns-clause-sound
returns-clause-sound c = flattened_is_sound

pub returns-clause-typed : goal.returns-clause-typed
returns-clause-typed c = flattened_is_typed
