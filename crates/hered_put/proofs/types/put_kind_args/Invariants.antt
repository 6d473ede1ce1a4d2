-- What is wanted of the whole is what is done and what is wanted of the rest.
use Rattle.std.proofs.Common.{◌≡◌, drop, map}
use Rattle.clf_syntax.specs.PlainTypes.{plain_ty}
use Rattle.hered_put.specs.Environments.{environment_of}
use Rattle.hered_put.specs.Pieces.{in_front}
use Rattle.hered_put.specs.TypePieces.{kind_of}
use Rattle.hered_put.proofs.types.put_kind_args.Given as goal

abbrev pub invariant-loop-arg : goal.invariant-loop-arg
invariant-loop-arg l = kind_of l.bound.rank (environment_of l.environment) (map plain_ty l.args)
    ≡ in_front (map plain_ty l.put) (kind_of l.bound.rank (environment_of l.inner) (map plain_ty (drop l.arg-index l.args)))
