use Rattle.std.proofs.Common.{◌≡◌, ap, sym, subst, ◌∙◌}
use Rattle.clf_syntax.specs.Plain.{plain_obj}
use Rattle.clf_syntax.specs.PlainSimple.{plain_simple}
use Rattle.clf_syntax.specs.PlainTypes.{plain_ty}
use Rattle.hered_subst.specs.Substitution.{single}
use Rattle.hered_subst.proofs.SimpleTyping.{rank}
use Rattle.hered_put.specs.Answers.{FailsAs}
use Rattle.hered_put.specs.Function.{made, untyped, nested, run_type}
use Rattle.clf_decision.proofs.Hereditary.{type_made, type_kept}
use Rattle.clf_kernel.proofs.putting.put_in_range.Goals as goal

pub returns-in-Ok-clause-put : goal.returns-in-Ok-clause-put
returns-in-Ok-clause-put c =
    sym (type_made (plain_obj c.args.obj.now) (plain_ty c.args.dom.now) (plain_ty c.args.cod.now) (plain_ty c.in-Ok.ty)
    (subst (λ u. run_type (nested (rank u)) (single (plain_obj c.args.obj.now) 0) (plain_ty c.args.cod.now) ≡ made (plain_ty c.in-Ok.ty)) c.in_ok-simple.ensures c.in-Ok.ensures.function))

pub returns-in-Err-Untyped-clause-put : goal.returns-in-Err-Untyped-clause-put
returns-in-Err-Untyped-clause-put c =
    ap plain_ty c.in_ok-copy-in-Err-Untyped.ensures
    ∙ sym (type_kept (plain_obj c.args.obj.now) (plain_ty c.args.dom.now) (plain_ty c.args.cod.now)
    (subst (λ u. run_type (nested (rank u)) (single (plain_obj c.args.obj.now) 0) (plain_ty c.args.cod.now) ≡ untyped) c.in_ok-simple.ensures
    (subst (λ f. FailsAs (run_type (nested (rank (plain_simple c.in_ok-simple.simple))) (single (plain_obj c.args.obj.now) 0) (plain_ty c.args.cod.now)) f) c.in-Err-Untyped.field-0-is c.in-Err-Untyped.ensures.function)))
