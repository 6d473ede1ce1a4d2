use Rattle.std.proofs.Common.{◌≡◌, map, drop}
use Rattle.clf_syntax.specs.PlainTypes.{plain_ty}
use Rattle.celf_front.specs.BinderTypes.{binder_types}
use Rattle.celf_front.proofs.front.binder_types.Given as goal

abbrev pub invariant-loop-number : goal.invariant-loop-number
invariant-loop-number l = map plain_ty l.made ≡ binder_types l.front.first (map plain_ty l.types) (drop l.number l.front.binders.now)
