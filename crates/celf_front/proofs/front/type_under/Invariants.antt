use Rattle.std.proofs.Common.{◌≡◌, map, length}
use Rattle.clf_syntax.specs.PlainTypes.{plain_ty}
use Rattle.celf_front.specs.FrontHeads.{heads_by}
use Rattle.celf_front.specs.Replaced.{replaced_type}
use Rattle.celf_front.specs.BinderTypes.{binder_types, functions_to}
use Rattle.celf_front.proofs.front.type_under.Given as goal

abbrev pub invariant-loop-domain : goal.invariant-loop-domain
invariant-loop-domain l = functions_to (map plain_ty l.binders) (plain_ty l.under)
    ≡ functions_to (binder_types l.front.first (map plain_ty l.types) l.front.binders.now) (replaced_type (heads_by l.front) 0 (plain_ty l.ty))

abbrev pub decreases-loop-domain : goal.decreases-loop-domain
decreases-loop-domain l = length l.binders
