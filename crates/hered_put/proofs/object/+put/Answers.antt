use Rattle.std.proofs.Common.{arith, ◌≡◌, ◌<◌, ◌+◌, map, length, drop, sym, ◌∙◌, ap, subst, Err}
use Rattle.std.proofs.lemmas.Result.{err_from_is_err_and}
use Rattle.clf_syntax.specs.declared.tree.Obj.{Lam}
use Rattle.clf_syntax.specs.declared.tree.Step.{out-Step}
use Rattle.clf_syntax.specs.declared.tree.Expr.{out-Expr}
use Rattle.clf_syntax.specs.Tree.{PlainExpression, step, steps_on, done, tuple_of}
use Rattle.clf_syntax.specs.Plain.{plain_obj, plain_neutral, plain_elim, plain_expr, plain_step, plain_entry, plain-Lam, plain-step}
use Rattle.hered_subst.specs.Substitution.{under, objects}
use Rattle.hered_put.specs.Tupled.{tupled}
use Rattle.hered_put.specs.Function.{made}
use Rattle.hered_put.specs.Answers.{Answers}
use Rattle.hered_put.specs.Environments.{environment_of}
use Rattle.hered_put.specs.Outcomes.{plain_outcome, plain_coming, plain_rest}
use Rattle.hered_put.specs.Pieces.{object_of, neutral_of, eliminated_of, expression_of, entries_of, entry_of, step_of, in_front, join_all, join_of, joined_of, flattened_of, binders_of}
use Rattle.hered_put.proofs.Answered.{erred, fails-through}
use Rattle.hered_put.proofs.ObjectPieces.{lam-under, lams, lams-made, lams-untyped, lams-too_far}
use Rattle.hered_put.proofs.SpinePieces.{spined, spined-next, spined-untyped, spined-too_far}
use Rattle.hered_put.proofs.TuplePieces.{one_more, entries-next, in_front-untyped, in_front-too_far, in_front-more, pushed}
use Rattle.hered_put.proofs.StepPieces.{join_next, join_next-untyped, join_next-too_far, join_next-made, join_all-more, join_all-untyped, join_all-too_far, joined-all, join-staying}
use Rattle.hered_put.proofs.ExpressionPieces.{steps-next, steps-ended, dones, dones-made}
use Rattle.hered_put.proofs.FlatPieces.{steps_before, steps_before-made, steps_before-untyped, steps_before-too_far, flattened-in}
use Rattle.hered_put.proofs.object.+put.Goals as goal

-- ---- lambdas

pub put_object-returns-in_err-body-in-Lam : goal.put_object-returns-in_err-body-in-Lam
put_object-returns-in_err-body-in-Lam t c =
    let k = c.args.bound.rank in
    let j = c.in_ok-inside.inside.rank in
    let s = environment_of c.args.environment.now in
    let z = environment_of c.in_ok-inner-in-Lam.inner in
    let m = c.in-Lam.mode in
    let whole = object_of k s (plain_obj c.args.obj.now) in
    let p = err_from_is_err_and c.from_residual-in_err-body-in-Lam.result c.from_residual-in_err-body-in-Lam.ensures.1 in
    let e : c.from_residual-in_err-body-in-Lam.result ≡ Err c.in_err-body-in-Lam.field-0.0 = cc (p.1, p.2) in
    erred plain_obj whole c.from_residual-in_err-body-in-Lam.result c.in_err-body-in-Lam.field-0.0 e
    (fails-through (lams m) (object_of j z (plain_obj c.get.result.now)) whole c.in_err-body-in-Lam.field-0.0
    (lam-under k j s z c.args.obj.now m c.in-Lam.body c.get.result.now c.in-Lam.is c.in_ok-inside.ensures.rank c.in_ok-inner-in-Lam.ensures c.get.ensures) (lams-untyped m) (lams-too_far m) c.in_err-body-in-Lam.ensures)

pub put_object-returns-in_ok-new-in-Lam : goal.put_object-returns-in_ok-new-in-Lam
put_object-returns-in_ok-new-in-Lam t c =
    let k = c.args.bound.rank in
    let j = c.in_ok-inside.inside.rank in
    let s = environment_of c.args.environment.now in
    let z = environment_of c.in_ok-inner-in-Lam.inner in
    let m = c.in-Lam.mode in
    lam-under k j s z c.args.obj.now m c.in-Lam.body c.get.result.now c.in-Lam.is c.in_ok-inside.ensures.rank c.in_ok-inner-in-Lam.ensures c.get.ensures
    ∙ ap (lams m) c.in_ok-body-in-Lam.ensures
    ∙ lams-made m (plain_obj c.in_ok-body-in-Lam.body)
    ∙ ap made (sym (plain-Lam m c.in_ok-body-in-Lam.body) ∙ ap (λ b. plain_obj (Lam m b)) (sym c.in_ok-new-in-Lam.ensures))

-- ---- spines and tuples

pub put_neutral-returns-in_err-outcome-2 : goal.put_neutral-returns-in_err-outcome-2
put_neutral-returns-in_err-outcome-2 t c =
    let k = c.args.bound.rank in
    let s = environment_of c.args.environment.now in
    let i = c.loop-act.act-index in
    let x = c.act-item.result in
    let xs = c.as_slice-act-items.result.now in
    let v = plain_outcome c.loop-act.outcome in
    let lt : i < length xs = omega arith in
    let later = map plain_elim (drop (i + 1) xs) in
    let p = err_from_is_err_and c.from_residual-in_err-outcome-2.result c.from_residual-in_err-outcome-2.ensures.1 in
    let e : c.from_residual-in_err-outcome-2.result ≡ Err c.in_err-outcome-2.field-0.0 = cc (p.1, p.2) in
    erred plain_outcome (neutral_of k s (plain_neutral c.args.neutral.now)) c.from_residual-in_err-outcome-2.result c.in_err-outcome-2.field-0.0 e
    (fails-through (spined k s later) (eliminated_of k s (plain_elim x) v) (neutral_of k s (plain_neutral c.args.neutral.now)) c.in_err-outcome-2.field-0.0
    (c.loop-act.invariant ∙ spined-next k s i x xs v lt c.act-item.is) (spined-untyped k s later) (spined-too_far k s later) c.in_err-outcome-2.ensures)

pub put_tuple-returns-in_err-put_entry : goal.put_tuple-returns-in_err-put_entry
put_tuple-returns-in_err-put_entry t c =
    let k = c.args.bound.rank in
    let s = environment_of c.args.environment.now in
    let i = c.loop-entry.entry-index in
    let x = c.entry-item.result in
    let xs = c.args.tuple.now in
    let lt : i < length xs = omega arith in
    let ys = map plain_entry c.loop-entry.entries in
    let later = entries_of k s (map plain_entry (drop (i + 1) xs)) in
    let p = err_from_is_err_and c.from_residual.result c.from_residual.ensures.1 in
    let e : c.from_residual.result ≡ Err c.in_err-put_entry.field-0.0 = cc (p.1, p.2) in
    erred (λ es. map plain_entry es) (entries_of k s (map plain_entry xs)) c.from_residual.result c.in_err-put_entry.field-0.0 e
    (fails-through (λ a. in_front ys (one_more a later)) (entry_of k s (plain_entry x)) (entries_of k s (map plain_entry xs)) c.in_err-put_entry.field-0.0
    (c.loop-entry.invariant ∙ ap (in_front ys) (entries-next k s i x xs lt c.entry-item.is)) (in_front-untyped ys later) (in_front-too_far ys later) c.in_err-put_entry.ensures)

pub put_tuple-loop-entry-preserved : goal.put_tuple-loop-entry-preserved
put_tuple-loop-entry-preserved t c =
    let k = c.args.bound.rank in
    let s = environment_of c.args.environment.now in
    let i = c.loop-entry.entry-index in
    let x = c.entry-item.result in
    let xs = c.args.tuple.now in
    let lt : i < length xs = omega arith in
    let ys = map plain_entry c.loop-entry.entries in
    let later = entries_of k s (map plain_entry (drop (i + 1) xs)) in
    let y = c.in_ok-put_entry.field-0 in
    c.loop-entry.invariant
    ∙ ap (in_front ys) (entries-next k s i x xs lt c.entry-item.is)
    ∙ ap (λ a. in_front ys (one_more a later)) c.in_ok-put_entry.ensures
    ∙ in_front-more ys (plain_entry y) later
    ∙ ap (λ zs. in_front zs later) (sym (pushed plain_entry c.loop-entry.entries y c.push.new.self c.in_ok-push.ensures.ok))

-- ---- expressions

pub put_expression-returns-in_err-put_step : goal.put_expression-returns-in_err-put_step
put_expression-returns-in_err-put_step t c =
    let k = c.args.bound.rank in
    let s = environment_of c.loop-step.inner in
    let i = c.loop-step.step-index in
    let x = c.step-item.result in
    let xs = c.as_slice-step-items.result.now in
    let lt : i < length xs = omega arith in
    let cs = map plain_coming c.loop-step.steps in
    let end : PlainExpression = done (tuple_of (map plain_entry (out-Expr c.args.expr.now).result)) in
    let later = expression_of k (under (length x.modes) s) (steps_on (map plain_step (drop (i + 1) xs)) end) in
    let whole = expression_of k (environment_of c.args.environment.now) (plain_expr c.args.expr.now) in
    let p = err_from_is_err_and c.from_residual.result c.from_residual.ensures.1 in
    let e : c.from_residual.result ≡ Err c.in_err-put_step.field-0.0 = cc (p.1, p.2) in
    erred plain_expr whole c.from_residual.result c.in_err-put_step.field-0.0 e
    (fails-through (λ a. join_all k cs (join_next k a later)) (step_of k s (plain_step x)) whole c.in_err-put_step.field-0.0
    (c.loop-step.invariant ∙ ap (join_all k cs) (steps-next k s i x xs end lt c.step-item.is)) (join_next-untyped k cs later) (join_next-too_far k cs later) c.in_err-put_step.ensures)

pub put_expression-loop-step-preserved : goal.put_expression-loop-step-preserved
put_expression-loop-step-preserved t c =
    let k = c.args.bound.rank in
    let s = environment_of c.loop-step.inner in
    let i = c.loop-step.step-index in
    let x = c.step-item.result in
    let xs = c.as_slice-step-items.result.now in
    let lt : i < length xs = omega arith in
    let cs = map plain_coming c.loop-step.steps in
    let end : PlainExpression = done (tuple_of (map plain_entry (out-Expr c.args.expr.now).result)) in
    let rest : PlainExpression = steps_on (map plain_step (drop (i + 1) xs)) end in
    let later = expression_of k (under (length x.modes) s) rest in
    let y = c.in_ok-put_step.field-0 in
    let deep = c.in_ok-inner.ensures ∙ ap (λ n. under n s) c.len.ensures in
    c.loop-step.invariant
    ∙ ap (join_all k cs) (steps-next k s i x xs end lt c.step-item.is)
    ∙ ap (λ a. join_all k cs (join_next k a later)) c.in_ok-put_step.ensures
    ∙ join_next-made k cs (plain_coming y) later
    ∙ ap (λ zs. join_all k zs later) (sym (pushed plain_coming c.loop-step.steps y c.push.new.self c.in_ok-push.ensures.ok))
    ∙ ap (λ z. join_all k (map plain_coming c.push.new.self) (expression_of k z rest)) (sym deep)

pub put_expression-returns : goal.put_expression-returns
put_expression-returns t c =
    let k = c.args.bound.rank in
    let s = environment_of c.loop-step.inner in
    let cs = map plain_coming c.loop-step.steps in
    let R = (out-Expr c.args.expr.now).result in
    let entries = ap (λ es. entries_of k s (map plain_entry es)) (sym c.as_slice.ensures) ∙ c.in_ok-result.ensures in
    let want = c.loop-step.invariant
    ∙ ap (join_all k cs) (steps-ended k s c.loop-step.step-index c.as_slice-step-items.result.now R (omega arith))
    ∙ ap (λ a. join_all k cs (dones a)) entries
    ∙ ap (join_all k cs) (dones-made (map plain_entry c.in_ok-result.result))
    ∙ ap (λ f. join_all k cs (made f)) (sym c.of_tuple.ensures)
    ∙ sym (joined-all k cs (plain_rest c.of_tuple.result)) in
    subst (λ w. Answers plain_expr w c.joined.result) (sym want) c.joined.ensures

-- ---- steps in front of the rest

pub joined-loop-step-init : goal.joined-loop-step-init
joined-loop-step-init t c = joined-all c.args.bound.rank (map plain_coming c.args.steps) (plain_rest c.args.rest)

pub joined-returns-in_err-rest : goal.joined-returns-in_err-rest
joined-returns-in_err-rest t c =
    let k = c.args.bound.rank in
    let x = c.in-Some.step in
    let cs = map plain_coming c.pop.new.self in
    let f = plain_rest c.loop-step.rest in
    let whole = joined_of k (map plain_coming c.args.steps) (plain_rest c.args.rest) in
    let p = err_from_is_err_and c.from_residual.result c.from_residual.ensures.1 in
    let e : c.from_residual.result ≡ Err c.in_err-rest.field-0.0 = cc (p.1, p.2) in
    erred plain_expr whole c.from_residual.result c.in_err-rest.field-0.0 e
    (fails-through (join_all k cs) (join_of k (plain_coming x) f) whole c.in_err-rest.field-0.0
    (c.loop-step.invariant ∙ ap (λ zs. join_all k zs (made f)) (pushed plain_coming c.pop.new.self x c.loop-step.steps c.in-Some.ensures) ∙ join_all-more k cs (plain_coming x) f)
    (join_all-untyped k cs) (join_all-too_far k cs) c.in_err-rest.ensures)

pub joined-loop-step-preserved : goal.joined-loop-step-preserved
joined-loop-step-preserved t c =
    let k = c.args.bound.rank in
    let x = c.in-Some.step in
    let cs = map plain_coming c.pop.new.self in
    let f = plain_rest c.loop-step.rest in
    c.loop-step.invariant
    ∙ ap (λ zs. join_all k zs (made f)) (pushed plain_coming c.pop.new.self x c.loop-step.steps c.in-Some.ensures)
    ∙ join_all-more k cs (plain_coming x) f
    ∙ ap (join_all k cs) c.in_ok-rest.ensures

pub join-returns-in_ok-behind-in-Stays : goal.join-returns-in_ok-behind-in-Stays
join-returns-in_ok-behind-in-Stays t c =
    let k = c.args.bound.rank in
    let f = plain_rest c.args.rest in
    let x = c.in-Stays.step in
    ap (λ y. join_of k (plain_coming y) f) c.in-Stays.is
    ∙ join-staying k x.modes (plain_neutral (out-Step x).rhs) f
    ∙ ap made (ap (λ p. step p.0 p.1 f) (sym (plain-step x)) ∙ sym c.in_ok-behind-in-Stays.ensures)

pub flatten-returns-in_err-rest : goal.flatten-returns-in_err-rest
flatten-returns-in_err-rest t c =
    let value = c.args.value in
    let f = plain_expr c.args.rest.now in
    let s = environment_of c.tuple-tuple.result in
    let steps = map plain_step (out-Expr value).steps in
    let same : s ≡ tupled (objects (tuple_of (map plain_entry (out-Expr value).result))) (binders_of (map plain_step (out-Expr value).steps)) = cc (c.tuple-tuple.ensures, c.as_slice-2.ensures, c.as_slice.ensures, c.in_ok-raised.ensures) in
    let whole = flattened_of c.args.bound.rank c.args.binders (plain_expr value) f in
    let long : length (out-Expr value).result ≡ c.args.binders = omega arith in
    let want = flattened-in c.args.bound.rank c.in_ok-nested.nested.rank c.args.binders value f s c.in_ok-nested.ensures.0 long same in
    let p = err_from_is_err_and c.from_residual-in_err-rest.result c.from_residual-in_err-rest.ensures.1 in
    let e : c.from_residual-in_err-rest.result ≡ Err c.in_err-rest.field-0.0 = cc (p.1, p.2) in
    erred plain_expr whole c.from_residual-in_err-rest.result c.in_err-rest.field-0.0 e
    (fails-through (steps_before steps) (expression_of c.in_ok-nested.nested.rank s f) whole c.in_err-rest.field-0.0 want (steps_before-untyped steps) (steps_before-too_far steps) c.in_err-rest.ensures)

pub flatten-returns : goal.flatten-returns
flatten-returns t c =
    let value = c.args.value in
    let f = plain_expr c.args.rest.now in
    let s = environment_of c.tuple-tuple.result in
    let steps = map plain_step (out-Expr value).steps in
    let same : s ≡ tupled (objects (tuple_of (map plain_entry (out-Expr value).result))) (binders_of (map plain_step (out-Expr value).steps)) = cc (c.tuple-tuple.ensures, c.as_slice-2.ensures, c.as_slice.ensures, c.in_ok-raised.ensures) in
    let long : length (out-Expr value).result ≡ c.args.binders = omega arith in
    flattened-in c.args.bound.rank c.in_ok-nested.nested.rank c.args.binders value f s c.in_ok-nested.ensures.0 long same
    ∙ ap (steps_before steps) c.in_ok-rest.ensures
    ∙ steps_before-made steps (plain_expr c.in_ok-rest.rest)
    ∙ ap made (sym c.in_ok-behind_steps.ensures)
