use Rattle.std.proofs.Common.{◌∙◌, map}
use Rattle.clf_syntax.specs.Plain.{plain_obj}
use Rattle.clf_syntax.specs.PlainTypes.{plain_ty}
use Rattle.clf_syntax.specs.PlainSimple.{plain_simple}
use Rattle.clf_syntax.specs.Simple.{SimplyFormedKind}
use Rattle.hered_subst.specs.Substitution.{single, SubstitutedKind}
use Rattle.hered_subst.proofs.SimpleTyping.{rank}
use Rattle.hered_put.specs.Environments.{environment_of}
use Rattle.hered_put.specs.Function.{nested, run_kind}
use Rattle.hered_put.specs.Passes.{PassesKind}
use Rattle.hered_put.proofs.Answered.{Met, answers-all, answers-keep}
use Rattle.hered_put.proofs.Called.{kind-called}
use Rattle.hered_put.proofs.Results.{function_is_sound, function_keeps_forms}
use Rattle.hered_put.proofs.put.put_args.Goals as goal

met : (c : goal.After-put_kind_args) → Met (λ ts. map plain_ty ts) (run_kind (nested (rank (plain_simple c.args.simple.now))) (single (plain_obj c.args.obj.now) c.args.var) (map plain_ty c.args.args.now)) c.put_kind_args.result (SubstitutedKind (single (plain_obj c.args.obj.now) c.args.var) (map plain_ty c.args.args.now)) (PassesKind (single (plain_obj c.args.obj.now) c.args.var) (map plain_ty c.args.args.now))
met c =
    let k = rank (plain_simple c.args.simple.now) in
    let s = single (plain_obj c.args.obj.now) c.args.var in
    let into = map plain_ty c.args.args.now in
    answers-all (λ ts. map plain_ty ts) (run_kind (nested k) s into) c.put_kind_args.result (SubstitutedKind s into) (PassesKind s into)
    (kind-called c.of_rank-bound.result.rank k (environment_of c.object.result) s c.put_kind_args.result (c.of_rank-bound.ensures ∙ c.in_ok-type_rank.ensures) c.object.ensures (λ ts. map plain_ty ts) into c.put_kind_args.ensures)
    ((function_is_sound k s).5 into)

pub returns-clause-function : goal.returns-clause-function
returns-clause-function c = (met c).0

pub returns-clause-substituted : goal.returns-clause-substituted
returns-clause-substituted c = (met c).1

pub returns-clause-passes : goal.returns-clause-passes
returns-clause-passes c = (met c).2

pub returns-clause-formed : goal.returns-clause-formed
returns-clause-formed c = λ a z p q. answers-keep (λ ts. map plain_ty ts) (run_kind (nested (rank (plain_simple c.args.simple.now))) (single (plain_obj c.args.obj.now) c.args.var) (map plain_ty c.args.args.now)) c.put_kind_args.result (λ x. SimplyFormedKind a z x) (met c).0 ((function_keeps_forms a z c.args.var (plain_obj c.args.obj.now) (plain_simple c.args.simple.now) p).2 (map plain_ty c.args.args.now) q)
