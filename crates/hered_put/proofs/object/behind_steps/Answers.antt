use Rattle.std.proofs.Common.{ap, sym, ◌∙◌, map, List}
use Rattle.std.proofs.lemmas.List.{map-append}
use Rattle.clf_syntax.specs.declared.tree.Mode.{Mode}
use Rattle.clf_syntax.specs.declared.tree.Step.{Step}
use Rattle.clf_syntax.specs.declared.tree.Expr.{out-Expr}
use Rattle.clf_syntax.specs.Tree.{PlainNeutral, PlainExpression, steps_on, done, tuple_of}
use Rattle.clf_syntax.specs.Plain.{plain_step, plain_entry, plain-expr, plain-Expr}
use Rattle.hered_put.proofs.ExpressionPieces.{steps-behind}
use Rattle.hered_put.proofs.object.behind_steps.Goals as goal

pub returns : goal.returns
returns c =
    let front = (out-Expr c.args.front).steps in
    let rest = (out-Expr c.args.rest).steps in
    let end : PlainExpression = done (tuple_of (map plain_entry (out-Expr c.args.rest).result)) in
    plain-Expr c.append.new.self (out-Expr c.args.rest).result
    ∙ ap (λ (ss : List Step). steps_on (map plain_step ss) end) c.in_ok-append.ensures
    ∙ ap (λ (ss : List (List Mode × PlainNeutral)). steps_on ss end) (map-append plain_step front rest)
    ∙ steps-behind (map plain_step front) (map plain_step rest) end
    ∙ ap (steps_on (map plain_step front)) (sym (plain-expr c.args.rest))
