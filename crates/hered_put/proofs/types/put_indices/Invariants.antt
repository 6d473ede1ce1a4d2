-- What is wanted of the whole is what is done and what is wanted of the rest.
use Rattle.std.proofs.Common.{◌≡◌, drop, map}
use Rattle.clf_syntax.specs.Plain.{plain_obj}
use Rattle.hered_put.specs.Environments.{environment_of}
use Rattle.hered_put.specs.Pieces.{in_front}
use Rattle.hered_put.specs.TypePieces.{indices_of}
use Rattle.hered_put.proofs.types.put_indices.Given as goal

abbrev pub invariant-loop-index : goal.invariant-loop-index
invariant-loop-index l = indices_of l.bound.rank (environment_of l.environment) (map plain_obj l.indices)
    ≡ in_front (map plain_obj l.put) (indices_of l.bound.rank (environment_of l.environment) (map plain_obj (drop l.index-index l.indices)))
