use Rattle.hered_put.proofs.Results.{function_is_typed, function_keeps_forms}
use Rattle.hered_put.proofs.laws.typed_substitution.Goals as goal

pub returns-clause-objects : goal.returns-clause-objects
returns-clause-objects c = function_is_typed

pub returns-clause-types : goal.returns-clause-types
returns-clause-types c = function_keeps_forms
