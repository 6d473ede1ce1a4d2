use Rattle.use_contexts.proofs.ArgumentLaws.{affine-law, persistent-law}
use Rattle.use_contexts.proofs.laws.rows_of_arguments.Goals as goal

pub returns : goal.returns
returns c = record { affine = affine-law; persistent = persistent-law }
