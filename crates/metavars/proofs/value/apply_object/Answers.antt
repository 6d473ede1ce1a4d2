use Rattle.std.proofs.Common.{ap, sym, subst, ◌∙◌, ◌≡◌, ◌≢◌, rules}
use Rattle.clf_syntax.specs.Tree.{lam}
use Rattle.clf_syntax.specs.Plain.{plain_obj, plain-Lam}
use Rattle.clf_syntax.specs.PlainSimple.{plain_simple}
use Rattle.metavars.specs.Outcomes.{NotAppliedAt}
use Rattle.metavars.proofs.Values.{put-applied, other-mode}
use Rattle.metavars.proofs.value.apply_object.Goals as goal

pub returns-then-ne : goal.returns-then-ne
returns-then-ne c =
    let d = plain_simple c.args.dom.now in
    let y = plain_obj c.args.argument.now in
    let is : plain_obj c.args.obj.now ≡ lam c.in-Lam.wanted (plain_obj c.in-Lam.body) = ap plain_obj c.in-Lam.is ∙ plain-Lam c.in-Lam.wanted c.in-Lam.body in
    let other : c.args.mode ≢ c.in-Lam.wanted = search rules in
    subst (λ o. NotAppliedAt c.args.mode d o y) (sym is) (other-mode c.args.mode d y c.in-Lam.wanted (plain_obj c.in-Lam.body) other)

pub returns-else-ne : goal.returns-else-ne
returns-else-ne c =
    let same : c.in-Lam.wanted ≡ c.args.mode = search rules in
    let is : plain_obj c.args.obj.now ≡ lam c.args.mode (plain_obj c.get.result.now) = ap plain_obj c.in-Lam.is ∙ plain-Lam c.in-Lam.wanted c.in-Lam.body ∙ ap (λ m. lam m (plain_obj c.in-Lam.body)) same ∙ ap (λ b. lam c.args.mode (plain_obj b)) (sym c.get.ensures) in
    put-applied c.args.mode (plain_simple c.args.dom.now) (plain_obj c.args.argument.now) (plain_obj c.args.obj.now) (plain_obj c.get.result.now) c.put_obj.result is c.put_obj.ensures.substituted c.put_obj.ensures.typed
