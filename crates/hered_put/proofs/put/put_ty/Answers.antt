use Rattle.std.proofs.Common.{◌∙◌}
use Rattle.clf_syntax.specs.Plain.{plain_obj}
use Rattle.clf_syntax.specs.PlainTypes.{plain_ty}
use Rattle.clf_syntax.specs.PlainSimple.{plain_simple}
use Rattle.clf_syntax.specs.Simple.{SimplyFormed}
use Rattle.hered_subst.specs.Substitution.{single, SubstitutedType}
use Rattle.hered_subst.proofs.SimpleTyping.{rank}
use Rattle.hered_put.specs.Environments.{environment_of}
use Rattle.hered_put.specs.Function.{nested, run_type}
use Rattle.hered_put.specs.Passes.{PassesType}
use Rattle.hered_put.proofs.Answered.{Met, answers-all, answers-keep}
use Rattle.hered_put.proofs.Called.{type-called}
use Rattle.hered_put.proofs.Results.{function_is_sound, function_keeps_forms}
use Rattle.hered_put.proofs.put.put_ty.Goals as goal

met : (c : goal.After-put_type) → Met plain_ty (run_type (nested (rank (plain_simple c.args.simple.now))) (single (plain_obj c.args.obj.now) c.args.var) (plain_ty c.args.into.now)) c.put_type.result (SubstitutedType (single (plain_obj c.args.obj.now) c.args.var) (plain_ty c.args.into.now)) (PassesType (single (plain_obj c.args.obj.now) c.args.var) (plain_ty c.args.into.now))
met c =
    let k = rank (plain_simple c.args.simple.now) in
    let s = single (plain_obj c.args.obj.now) c.args.var in
    let into = plain_ty c.args.into.now in
    answers-all plain_ty (run_type (nested k) s into) c.put_type.result (SubstitutedType s into) (PassesType s into)
    (type-called c.of_rank-bound.result.rank k (environment_of c.object.result) s c.put_type.result (c.of_rank-bound.ensures ∙ c.in_ok-type_rank.ensures) c.object.ensures (plain_ty) into c.put_type.ensures)
    ((function_is_sound k s).3 into)

pub returns-clause-function : goal.returns-clause-function
returns-clause-function c = (met c).0

pub returns-clause-substituted : goal.returns-clause-substituted
returns-clause-substituted c = (met c).1

pub returns-clause-passes : goal.returns-clause-passes
returns-clause-passes c = (met c).2

pub returns-clause-formed : goal.returns-clause-formed
returns-clause-formed c = λ a z p q. answers-keep plain_ty (run_type (nested (rank (plain_simple c.args.simple.now))) (single (plain_obj c.args.obj.now) c.args.var) (plain_ty c.args.into.now)) c.put_type.result (λ x. SimplyFormed a z x) (met c).0 ((function_keeps_forms a z c.args.var (plain_obj c.args.obj.now) (plain_simple c.args.simple.now) p).0 (plain_ty c.args.into.now) q)
