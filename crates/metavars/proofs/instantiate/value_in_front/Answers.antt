use Rattle.std.proofs.Common.{subst, sym, ◌≡◌}
use Rattle.clf_syntax.specs.Tree.{monadic, atomic}
use Rattle.clf_syntax.specs.Plain.{plain_obj, plain_neutral, plain_expr, plain-Mon, plain-At}
use Rattle.clf_syntax.specs.PlainSimple.{plain_simple}
use Rattle.hered_put.specs.declared.step.Rest.{Rest}
use Rattle.hered_put.specs.Outcomes.{plain_rest}
use Rattle.metavars.specs.Outcomes.{MetaInFront, NoMeta, Front, NotFront, Flat, NotFlat}
use Rattle.metavars.proofs.Values.{gives-more, flat-front, flat-not_front, meta-front, meta-not_front}
use Rattle.metavars.proofs.instantiate.value_in_front.Goals as goal

pub returns-in-Mon : goal.returns-in-Mon
returns-in-Mon c =
    let ms = c.args.modes.now in
    let e = plain_rest c.args.rest in
    let g = plain_expr c.get.result.now in
    let t = plain_simple c.args.value.ty.now in
    let o = plain_obj c.args.value.obj in
    let is : o ≡ monadic g = cc (plain-Mon c.in-Mon.expr, c.get.ensures) in
    gives-more (NotFlat ms g t e) (NotFront ms (o, t) e) (λ (r : Rest). Flat ms g t e (plain_rest r)) (λ (r : Rest). Front ms (o, t) e (plain_rest r)) c.flat_in_front.result
    (λ h. subst (λ x. NotFront ms (x, t) e) (sym is) (flat-not_front ms e g t h))
    (λ r h. subst (λ x. Front ms (x, t) e (plain_rest r)) (sym is) (flat-front ms e g t (plain_rest r) h)) c.flat_in_front.ensures

pub returns-in-At : goal.returns-in-At
returns-in-At c =
    let ms = c.args.modes.now in
    let e = plain_rest c.args.rest in
    let n = plain_neutral c.in-At.neutral in
    let t = plain_simple c.args.value.ty.now in
    let o = plain_obj c.args.value.obj in
    let is : o ≡ atomic n = cc (plain-At c.in-At.neutral) in
    gives-more (NoMeta n) (NotFront ms (o, t) e) (λ (r : Rest). MetaInFront ms n e (plain_rest r)) (λ (r : Rest). Front ms (o, t) e (plain_rest r)) c.meta_in_front.result
    (λ h. subst (λ x. NotFront ms (x, t) e) (sym is) (meta-not_front ms e n t h))
    (λ r h. subst (λ x. Front ms (x, t) e (plain_rest r)) (sym is) (meta-front ms e n t (plain_rest r) h)) c.meta_in_front.ensures
