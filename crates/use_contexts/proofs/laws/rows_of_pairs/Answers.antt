use Rattle.use_contexts.proofs.RowLaws.{in_pairs-law, apart-law}
use Rattle.use_contexts.proofs.laws.rows_of_pairs.Goals as goal

pub returns : goal.returns
returns c = record { joined = in_pairs-law; apart = apart-law }
