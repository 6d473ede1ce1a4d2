use Rattle.std.proofs.Common.{◌≡◌, ◌++◌, drop, map}
use Rattle.clf_syntax.specs.PlainTypes.{plain_ty}
use Rattle.celf_front.specs.FrontHeads.{heads_by}
use Rattle.celf_front.specs.Replaced as spec
use Rattle.celf_front.proofs.types.front_arguments.Given as goal

abbrev pub invariant-loop-arg : goal.invariant-loop-arg
invariant-loop-arg l = map plain_ty l.placed ++ spec.replaced_kind (heads_by l.front) l.inner (map plain_ty (drop l.arg-index l.args)) ≡ spec.replaced_kind (heads_by l.front) l.depth (map plain_ty l.args)
