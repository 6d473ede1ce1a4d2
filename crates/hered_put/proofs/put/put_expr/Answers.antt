use Rattle.std.proofs.Common.{◌∙◌}
use Rattle.clf_syntax.specs.Plain.{plain_obj, plain_expr}
use Rattle.clf_syntax.specs.PlainSimple.{plain_simple}
use Rattle.clf_syntax.specs.Simple.{SimplyTypedExpression}
use Rattle.hered_subst.specs.Substitution.{single, SubstitutedExpression}
use Rattle.hered_subst.proofs.SimpleTyping.{rank}
use Rattle.hered_put.specs.Environments.{environment_of}
use Rattle.hered_put.specs.Function.{nested, run_expression}
use Rattle.hered_put.specs.Passes.{PassesExpression}
use Rattle.hered_put.proofs.Answered.{Met, answers-all, answers-keep}
use Rattle.hered_put.proofs.Called.{expression-called}
use Rattle.hered_put.proofs.Results.{function_is_sound, function_is_typed}
use Rattle.hered_put.proofs.put.put_expr.Goals as goal

met : (c : goal.After-put_expression) → Met plain_expr (run_expression (nested (rank (plain_simple c.args.simple.now))) (single (plain_obj c.args.obj.now) c.args.var) (plain_expr c.args.into.now)) c.put_expression.result (SubstitutedExpression (single (plain_obj c.args.obj.now) c.args.var) (plain_expr c.args.into.now)) (PassesExpression (single (plain_obj c.args.obj.now) c.args.var) (plain_expr c.args.into.now))
met c =
    let k = rank (plain_simple c.args.simple.now) in
    let s = single (plain_obj c.args.obj.now) c.args.var in
    let into = plain_expr c.args.into.now in
    answers-all plain_expr (run_expression (nested k) s into) c.put_expression.result (SubstitutedExpression s into) (PassesExpression s into)
    (expression-called c.of_rank-bound.result.rank k (environment_of c.object.result) s c.put_expression.result (c.of_rank-bound.ensures ∙ c.in_ok-type_rank.ensures) c.object.ensures (plain_expr) into c.put_expression.ensures)
    ((function_is_sound k s).1 into)

pub returns-clause-function : goal.returns-clause-function
returns-clause-function c = (met c).0

pub returns-clause-substituted : goal.returns-clause-substituted
returns-clause-substituted c = (met c).1

pub returns-clause-passes : goal.returns-clause-passes
returns-clause-passes c = (met c).2

pub returns-clause-typed : goal.returns-clause-typed
returns-clause-typed c = λ z p t q. answers-keep plain_expr (run_expression (nested (rank (plain_simple c.args.simple.now))) (single (plain_obj c.args.obj.now) c.args.var) (plain_expr c.args.into.now)) c.put_expression.result (λ x. SimplyTypedExpression z x t) (met c).0 ((function_is_typed z c.args.var (plain_obj c.args.obj.now) (plain_simple c.args.simple.now) p).1 (plain_expr c.args.into.now) t q)
