use Rattle.std.proofs.Common.{sym, subst, ◌∙◌, ◌+◌, ◌≡◌, length, map, arith}
use Rattle.clf_syntax.specs.Tree.{PlainExpression, done, tuple_of}
use Rattle.clf_syntax.specs.Plain.{plain_expr, plain_entry}
use Rattle.clf_syntax.specs.PlainSimple.{plain_simple_entry, simple_telescope_of}
use Rattle.clf_syntax.specs.Simple.{SimplyTypedExpression}
use Rattle.hered_subst.specs.Substitution.{Flattened, objects}
use Rattle.hered_subst.proofs.SimpleTyping.{ranks}
use Rattle.hered_put.specs.Tupled.{tupled}
use Rattle.hered_put.specs.Environments.{environment_of}
use Rattle.hered_put.specs.Function.{untyped, nested, flattened}
use Rattle.hered_put.specs.Answers.{Answers}
use Rattle.hered_put.specs.Laws.{Fine}
use Rattle.hered_put.specs.Passes.{PassesFlattened}
use Rattle.hered_put.proofs.Answered.{Met, answers-all, answers-keep}
use Rattle.hered_put.proofs.Called.{expression-called, entries-length, tuple-flat, tuple-other}
use Rattle.hered_put.proofs.Environments.{tuple-length}
use Rattle.hered_put.proofs.Results.{flattened_is_sound, flattened_is_typed}
use Rattle.hered_put.proofs.put.put_tuple.Goals as goal

-- ---- a tuple of another length

other : (c : goal.Then-tuple-entries) → flattened (nested (ranks (simple_telescope_of (map plain_simple_entry c.args.entries.now)) + 1)) 0 (length c.args.entries.now) (done (tuple_of (map plain_entry c.args.tuple.now))) (plain_expr c.args.rest.now) ≡ untyped
other c = tuple-other (ranks (simple_telescope_of (map plain_simple_entry c.args.entries.now)) + 1) (length c.args.entries.now) (tuple_of (map plain_entry c.args.tuple.now)) (plain_expr c.args.rest.now)
    (λ h. c.if-tuple-entries.true (sym (tuple-length c.args.tuple.now) ∙ h))

pub returns-then-tuple-entries-clause-function : goal.returns-then-tuple-entries-clause-function
returns-then-tuple-entries-clause-function c = other c

pub returns-then-tuple-entries-clause-typed : goal.returns-then-tuple-entries-clause-typed
returns-then-tuple-entries-clause-typed c = λ z us p q.
    let ts = simple_telescope_of (map plain_simple_entry c.args.entries.now) in
    let g : PlainExpression = done (tuple_of (map plain_entry c.args.tuple.now)) in
    let f = plain_expr c.args.rest.now in
    let fine = subst (λ n. Fine (flattened (nested (ranks ts + 1)) 0 n g f) (λ x. SimplyTypedExpression z x us)) (entries-length c.args.entries.now) (flattened_is_typed z ts us g f p q) in
    subst (λ w. Fine w (λ x. SimplyTypedExpression z x us)) (other c) fine

-- ---- a tuple as long as the entries

met : (c : goal.After-put_expression) → Met plain_expr (flattened (nested (ranks (simple_telescope_of (map plain_simple_entry c.args.entries.now)) + 1)) 0 (length c.args.entries.now) (done (tuple_of (map plain_entry c.args.tuple.now))) (plain_expr c.args.rest.now)) c.put_expression.result
    (Flattened (length c.args.entries.now) (done (tuple_of (map plain_entry c.args.tuple.now))) (plain_expr c.args.rest.now)) (PassesFlattened 0 (done (tuple_of (map plain_entry c.args.tuple.now))) (plain_expr c.args.rest.now))
met c =
    let j = ranks (simple_telescope_of (map plain_simple_entry c.args.entries.now)) in
    let n = length c.args.entries.now in
    let t = tuple_of (map plain_entry c.args.tuple.now) in
    let f = plain_expr c.args.rest.now in
    let s = tupled (objects t) 0 in
    let long : length c.args.tuple.now ≡ n = omega (arith, c.if-tuple-entries.false) in
    let same = tuple-flat j n t f (tuple-length c.args.tuple.now ∙ long) in
    let main = expression-called c.of_rank-bound.result.rank j (environment_of c.tuple.result) s c.put_expression.result (c.of_rank-bound.ensures ∙ c.in_ok-entries_rank.ensures) c.tuple.ensures plain_expr f c.put_expression.ensures in
    answers-all plain_expr (flattened (nested (j + 1)) 0 n (done t) f) c.put_expression.result (Flattened n (done t) f) (PassesFlattened 0 (done t) f)
    (subst (λ w. Answers plain_expr w c.put_expression.result) (sym same) main) (flattened_is_sound (j + 1) n (done t) f)

pub returns-clause-function : goal.returns-clause-function
returns-clause-function c = (met c).0

pub returns-clause-substituted : goal.returns-clause-substituted
returns-clause-substituted c = (met c).1

pub returns-clause-passes : goal.returns-clause-passes
returns-clause-passes c = (met c).2

pub returns-clause-typed : goal.returns-clause-typed
returns-clause-typed c = λ z us p q.
    let ts = simple_telescope_of (map plain_simple_entry c.args.entries.now) in
    let g : PlainExpression = done (tuple_of (map plain_entry c.args.tuple.now)) in
    let f = plain_expr c.args.rest.now in
    answers-keep plain_expr (flattened (nested (ranks ts + 1)) 0 (length c.args.entries.now) g f) c.put_expression.result (λ x. SimplyTypedExpression z x us) (met c).0
    (subst (λ n. Fine (flattened (nested (ranks ts + 1)) 0 n g f) (λ x. SimplyTypedExpression z x us)) (entries-length c.args.entries.now) (flattened_is_typed z ts us g f p q))
