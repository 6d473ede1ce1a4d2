use Rattle.std.proofs.Common.{ap, subst, ◌∙◌, ◌+◌, ◌≡◌, length, map, refl}
use Rattle.clf_syntax.specs.Plain.{plain_expr}
use Rattle.clf_syntax.specs.PlainSimple.{plain_simple_entry, simple_telescope_of}
use Rattle.clf_syntax.specs.Simple.{SimplyTypedExpression}
use Rattle.hered_subst.specs.Substitution.{Flattened}
use Rattle.hered_subst.proofs.SimpleTyping.{ranks}
use Rattle.hered_put.specs.Function.{nested, flattened}
use Rattle.hered_put.specs.Laws.{Fine}
use Rattle.hered_put.specs.Passes.{PassesFlattened}
use Rattle.hered_put.proofs.Answered.{Met, answers-all, answers-keep}
use Rattle.hered_put.proofs.Called.{flattened-called, entries-length}
use Rattle.hered_put.proofs.Results.{flattened_is_sound, flattened_is_typed}
use Rattle.hered_put.proofs.put.flatten_let.Goals as goal

met : (c : goal.After-flatten) → Met plain_expr (flattened (nested (ranks (simple_telescope_of (map plain_simple_entry c.args.entries.now)) + 1)) 0 (length c.args.entries.now) (plain_expr c.args.value.now) (plain_expr c.args.rest.now)) c.flatten.result (Flattened (length c.args.entries.now) (plain_expr c.args.value.now) (plain_expr c.args.rest.now)) (PassesFlattened 0 (plain_expr c.args.value.now) (plain_expr c.args.rest.now))
met c =
    let k = ranks (simple_telescope_of (map plain_simple_entry c.args.entries.now)) + 1 in
    let n = length c.args.entries.now in
    let g = plain_expr c.args.value.now in
    let f = plain_expr c.args.rest.now in
    let deep : c.of_rank-bound.result.rank ≡ k = c.of_rank-bound.ensures ∙ c.in_ok-deeper.ensures ∙ ap (λ r. r + 1) c.in_ok-entries_rank.ensures in
    answers-all plain_expr (flattened (nested k) 0 n g f) c.flatten.result (Flattened n g f) (PassesFlattened 0 g f)
    (flattened-called c.of_rank-bound.result.rank k n n (plain_expr c.in_ok-copy.field-0) g f plain_expr c.flatten.result deep refl (ap plain_expr c.in_ok-copy.ensures) c.flatten.ensures)
    (flattened_is_sound k n g f)

pub returns-clause-function : goal.returns-clause-function
returns-clause-function c = (met c).0

pub returns-clause-substituted : goal.returns-clause-substituted
returns-clause-substituted c = (met c).1

pub returns-clause-passes : goal.returns-clause-passes
returns-clause-passes c = (met c).2

pub returns-clause-typed : goal.returns-clause-typed
returns-clause-typed c = λ z us p q.
    let ts = simple_telescope_of (map plain_simple_entry c.args.entries.now) in
    let g = plain_expr c.args.value.now in
    let f = plain_expr c.args.rest.now in
    answers-keep plain_expr (flattened (nested (ranks ts + 1)) 0 (length c.args.entries.now) g f) c.flatten.result (λ x. SimplyTypedExpression z x us) (met c).0
    (subst (λ n. Fine (flattened (nested (ranks ts + 1)) 0 n g f) (λ x. SimplyTypedExpression z x us)) (entries-length c.args.entries.now) (flattened_is_typed z ts us g f p q))
