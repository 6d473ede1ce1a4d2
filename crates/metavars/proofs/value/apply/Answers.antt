use Rattle.std.proofs.Common.{ap, sym, subst, ◌∙◌, ◌≡◌}
use Rattle.clf_syntax.specs.TypeTree.{arrow}
use Rattle.clf_syntax.specs.Plain.{plain_obj}
use Rattle.clf_syntax.specs.PlainSimple.{plain_simple, plain-SimpleFun}
use Rattle.metavars.specs.Outcomes.{Applied, NotApplied}
use Rattle.metavars.proofs.Values.{refused-by, at-domain, not-at-domain}
use Rattle.metavars.proofs.value.apply.Goals as goal

pub returns-in_err-apply_object-in-Fun : goal.returns-in_err-apply_object-in-Fun
returns-in_err-apply_object-in-Fun c =
    let m = c.args.mode in
    let o = plain_obj c.args.value.obj in
    let y = plain_obj c.args.argument.now in
    let d = plain_simple c.get.result.now in
    let a = plain_simple c.in-Fun.cod in
    let of : plain_simple c.args.value.ty.now ≡ arrow c.in-Fun.mode d a = ap plain_simple c.in-Fun.is ∙ plain-SimpleFun c.in-Fun.mode c.in-Fun.dom c.in-Fun.cod ∙ ap (λ x. arrow c.in-Fun.mode (plain_simple x) a) (sym c.get.ensures) in
    refused-by _ _ _ _ _ c.from_residual.ensures.1 (λ h. subst (λ t. NotApplied m (o, t) y) (sym of) (not-at-domain m d y c.in-Fun.mode a o h)) c.in_err-apply_object-in-Fun.ensures

pub returns-in-Fun : goal.returns-in-Fun
returns-in-Fun c =
    let m = c.args.mode in
    let o = plain_obj c.args.value.obj in
    let y = plain_obj c.args.argument.now in
    let d = plain_simple c.get.result.now in
    let a = plain_simple c.get-in-Fun.result.now in
    let x = plain_obj c.in_ok-apply_object-in-Fun.field-0 in
    let of : plain_simple c.args.value.ty.now ≡ arrow c.in-Fun.mode d a = ap plain_simple c.in-Fun.is ∙ plain-SimpleFun c.in-Fun.mode c.in-Fun.dom c.in-Fun.cod
    ∙ ap (λ z. arrow c.in-Fun.mode (plain_simple z) (plain_simple c.in-Fun.cod)) (sym c.get.ensures) ∙ ap (λ z. arrow c.in-Fun.mode d (plain_simple z)) (sym c.get-in-Fun.ensures) in
    subst (λ t. Applied m (o, t) y (x, a)) (sym of) (at-domain m d y c.in-Fun.mode a o x c.in_ok-apply_object-in-Fun.ensures)
