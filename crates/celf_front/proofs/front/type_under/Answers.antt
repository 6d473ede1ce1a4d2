use Rattle.std.proofs.Common.{ap, sym, ◌∙◌, map}
use Rattle.clf_syntax.specs.PlainTypes.{plain_ty}
use Rattle.celf_front.specs.BinderTypes.{functions_to}
use Rattle.celf_front.proofs.UnderFronts.{functions-popped}
use Rattle.celf_front.proofs.front.type_under.Goals as goal

pub loop-domain-preserved : goal.loop-domain-preserved
loop-domain-preserved c =
    let rest = c.pop.new.self in
    ap (functions_to (map plain_ty rest)) c.in_ok-under-2.ensures
    ∙ sym (functions-popped c.loop-domain.binders rest c.in-Some.domain (plain_ty c.loop-domain.under) c.in-Some.ensures)
    ∙ c.loop-domain.invariant
