use Rattle.std.proofs.Common.{◌≡◌, List, map, Result, Ok, Err, IfOk, ap, sym, subst, ◌∙◌}
use Rattle.clf_syntax.specs.Plain.{plain_obj}
use Rattle.clf_syntax.specs.PlainSimple.{plain_simple}
use Rattle.clf_syntax.specs.PlainTypes.{plain_ty}
use Rattle.hered_subst.specs.Substitution.{single}
use Rattle.hered_subst.proofs.SimpleTyping.{rank}
use Rattle.hered_put.specs.Answers.{FailsAs}
use Rattle.hered_put.specs.Function.{made, untyped, nested, run_kind}
use Rattle.clf_decision.proofs.Hereditary.{kind_made, kind_kept}
use Rattle.clf_kernel.proofs.putting.put_in_arguments.Goals as goal

if_copied : {X P E : Type 0} (r : Result (List X) E) (f : List X → P) (l : List X) (p : P) → IfOk r (λ k. k ≡ l) → f l ≡ p → IfOk r (λ k. f k ≡ p)
if_copied (Ok k) f l p e q = ap f e ∙ q
if_copied (Err e) f l p c q = tt

pub returns-in-Ok-clause-put : goal.returns-in-Ok-clause-put
returns-in-Ok-clause-put c =
    sym (kind_made (plain_obj c.args.obj.now) (plain_ty c.args.ty.now) (map plain_ty c.args.later.now) (map plain_ty c.in-Ok.args)
    (subst (λ u. run_kind (nested (rank u)) (single (plain_obj c.args.obj.now) 0) (map plain_ty c.args.later.now) ≡ made (map plain_ty c.in-Ok.args)) c.in_ok-simple.ensures c.in-Ok.ensures.function))

pub returns-in-Err-Untyped-clause-put : goal.returns-in-Err-Untyped-clause-put
returns-in-Err-Untyped-clause-put c =
    if_copied c.copied_arguments.result (λ l. map plain_ty l) c.args.later.now _ c.copied_arguments.ensures.copied
    (sym (kind_kept (plain_obj c.args.obj.now) (plain_ty c.args.ty.now) (map plain_ty c.args.later.now)
    (subst (λ u. run_kind (nested (rank u)) (single (plain_obj c.args.obj.now) 0) (map plain_ty c.args.later.now) ≡ untyped) c.in_ok-simple.ensures
    (subst (λ f. FailsAs (run_kind (nested (rank (plain_simple c.in_ok-simple.simple))) (single (plain_obj c.args.obj.now) 0) (map plain_ty c.args.later.now)) f) c.in-Err-Untyped.field-0-is c.in-Err-Untyped.ensures.function))))
