use Rattle.filled_laws.proofs.FinalIndices.{new_in_are_final, types_have_erasures}
use Rattle.filled_laws.proofs.FreshTypes.{fresh_types_are_read}
use Rattle.filled_laws.proofs.laws.fresh.Goals as goal

pub returns-clause-results : goal.returns-clause-results
returns-clause-results c = new_in_are_final

pub returns-clause-erasures : goal.returns-clause-erasures
returns-clause-erasures c = types_have_erasures

pub returns-clause-read : goal.returns-clause-read
returns-clause-read c = fresh_types_are_read
