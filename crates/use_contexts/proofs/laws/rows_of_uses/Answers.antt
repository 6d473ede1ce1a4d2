use Rattle.use_contexts.proofs.UseLaws.{uses-law, nothing-law, scopes-law}
use Rattle.use_contexts.proofs.laws.rows_of_uses.Goals as goal

pub returns : goal.returns
returns c = record { used = uses-law; idle = nothing-law; scopes = scopes-law }
