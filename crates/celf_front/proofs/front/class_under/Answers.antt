use Rattle.std.proofs.Common.{◌∙◌, map}
use Rattle.clf_syntax.specs.PlainTypes.{plain_ty, plain_kind}
use Rattle.celf_front.proofs.UnderFronts.{typed-reverse, typed-plain, type_answered, kind_answered}
use Rattle.celf_front.proofs.front.class_under.Goals as goal

pub kind_under-requires : goal.kind_under-requires
kind_under-requires c = typed-reverse c.args.types.now c.args.order.now c.as_slice.result.now (c.as_slice.ensures.value ∙ c.in_ok-binders.ensures) c.requires

pub type_under-requires : goal.type_under-requires
type_under-requires c = typed-reverse c.args.types.now c.args.order.now c.as_slice.result.now (c.as_slice.ensures.value ∙ c.in_ok-binders.ensures) c.requires

pub returns-in-Family : goal.returns-in-Family
returns-in-Family c =
    let made = rw (c.as_slice.ensures.value, c.in_ok-binders.ensures) at c.in_ok-kind_under-in-Family.ensures in
    rw c.in-Family.is (kind_answered c.args.first (map plain_ty c.args.types.now) c.args.order.now (plain_kind c.in-Family.kind) (plain_kind c.in_ok-kind_under-in-Family.field-0) (typed-plain c.args.types.now c.args.order.now c.requires) made)

pub returns : goal.returns
returns c =
    let made = rw (c.as_slice.ensures.value, c.in_ok-binders.ensures) at c.in_ok-type_under-in-Constant.ensures in
    rw c.in-Constant.is (type_answered c.args.first (map plain_ty c.args.types.now) c.args.order.now (plain_ty c.in-Constant.ty) (plain_ty c.in_ok-type_under-in-Constant.field-0) (typed-plain c.args.types.now c.args.order.now c.requires) made)
