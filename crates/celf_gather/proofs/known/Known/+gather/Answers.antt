use Rattle.std.proofs.Common.{◌≡◌, ◌-◌, map, Err, ap, sym, subst, ◌∙◌, arith}
use Rattle.std.proofs.lemmas.Result.{err_from_is_err_and}
use Rattle.clf_syntax.specs.Plain.{plain_elim, plain_entry}
use Rattle.clf_syntax.specs.PlainTypes.{plain_ty, plain_tele, plain_tele_entry}
use Rattle.clf_syntax.specs.TypeTree.{telescope_of}
use Rattle.hered_put.specs.Function.{made}
use Rattle.celf_constraints.specs.Equated.{equations_in}
use Rattle.celf_gather.specs.Gathered.{elimination_after, tuple_entry_after}
use Rattle.celf_gather.specs.Stops.{Stops}
use Rattle.celf_gather.specs.Walks.{scene_of, context_of, found_of}
use Rattle.celf_gather.proofs.Contexts.{same_context, length_entries}
use Rattle.celf_gather.proofs.Along.{each_stops}
use Rattle.celf_gather.proofs.Lists.{not_true}
use Rattle.celf_gather.proofs.Runs.{gives_stop, expression_stops, expression_past, tuple_stops, tuple_ends, some_left}
use Rattle.celf_gather.proofs.known.Known.+gather.Goals as goal

pub gather_expression-returns-in_err-enter_steps-clause-outcome : goal.gather_expression-returns-in_err-enter_steps-clause-outcome
gather_expression-returns-in_err-enter_steps-clause-outcome t c =
    let p = err_from_is_err_and c.from_residual.result c.from_residual.ensures.1 in
    let e : c.from_residual.result ≡ Err c.in_err-enter_steps.field-0.0 = cc (p.1, p.2) in
    gives_stop _ _ e (expression_stops (scene_of c.args.self.now) c.args.expr.now c.as_slice.result.now c.as_slice.ensures (context_of c.args.walk.now) (plain_tele c.args.tele.now) (found_of c.args.walk.now) c.in_err-enter_steps.field-0.0
    c.in_err-enter_steps.ensures.outcome)

pub gather_expression-returns-in_err-gather_tuple-clause-outcome : goal.gather_expression-returns-in_err-gather_tuple-clause-outcome
gather_expression-returns-in_err-gather_tuple-clause-outcome t c =
    let p = err_from_is_err_and c.from_residual-in_err-gather_tuple.result c.from_residual-in_err-gather_tuple.ensures.1 in
    let e : c.from_residual-in_err-gather_tuple.result ≡ Err c.in_err-gather_tuple.field-0.0 = cc (p.1, p.2) in
    let n = c.len-older.ensures in let m = c.len.ensures in
    let i = length_entries c.args.walk.now in let j = length_entries c.enter_steps.new.walk in
    gives_stop _ _ e (subst (λ w. Stops w c.in_err-gather_tuple.field-0.0)
    (sym (expression_past (scene_of c.args.self.now) c.args.expr.now c.as_slice.result.now c.as_slice.ensures c.as_slice-2.result.now c.as_slice-2.ensures c.args.walk.now c.enter_steps.new.walk (plain_tele c.args.tele.now)
    (c.len.result - c.len-older.result) c.in_ok-types.types c.in_ok-enter_steps.ensures.outcome (omega (arith, n, m, i, j)) c.in_ok-types.ensures.raised))
    c.in_err-gather_tuple.ensures.outcome)

pub gather_expression-returns-clause-outcome : goal.gather_expression-returns-clause-outcome
gather_expression-returns-clause-outcome t c =
    let n = c.len-older.ensures in let m = c.len.ensures in
    let i = length_entries c.args.walk.now in let j = length_entries c.enter_steps.new.walk in
    expression_past (scene_of c.args.self.now) c.args.expr.now c.as_slice.result.now c.as_slice.ensures c.as_slice-2.result.now c.as_slice-2.ensures c.args.walk.now c.enter_steps.new.walk (plain_tele c.args.tele.now)
    (c.len.result - c.len-older.result) c.in_ok-types.types c.in_ok-enter_steps.ensures.outcome (omega (arith, n, m, i, j)) c.in_ok-types.ensures.raised
    ∙ c.in_ok-gather_tuple.ensures.outcome ∙ ap (λ f. made (equations_in f)) (sym c.leave_to.ensures.found)

pub gather_tuple-returns-in_err-rest-clause-outcome : goal.gather_tuple-returns-in_err-rest-clause-outcome
gather_tuple-returns-in_err-rest-clause-outcome t c =
    let v = c.loop-entry.invariant in
    let p = err_from_is_err_and c.from_residual.result c.from_residual.ensures.1 in
    let e : c.from_residual.result ≡ Err c.in_err-rest.field-0.0 = cc (p.1, p.2) in
    gives_stop _ _ e (subst (λ w. Stops w c.in_err-rest.field-0.0) (sym v.1)
    (tuple_stops (scene_of c.args.self.now) (context_of c.args.walk.now) c.args.entries.now c.loop-entry.entry-index c.entry-item.result (omega (arith, c.loop-entry-test.true)) c.entry-item.is (telescope_of (map plain_tele_entry c.loop-entry.rest)) (found_of c.loop-entry.walk) c.in_err-rest.field-0.0
    (subst (λ g. Stops (tuple_entry_after (scene_of c.args.self.now) g (plain_entry c.entry-item.result) (telescope_of (map plain_tele_entry c.loop-entry.rest), found_of c.loop-entry.walk)) c.in_err-rest.field-0.0)
    (same_context c.args.walk.now c.loop-entry.walk v.0) c.in_err-rest.ensures.outcome)))

pub gather_tuple-returns-clause-outcome : goal.gather_tuple-returns-clause-outcome
gather_tuple-returns-clause-outcome t c =
    let v = c.loop-entry.invariant in
    v.1 ∙ tuple_ends (scene_of c.args.self.now) (context_of c.args.walk.now) c.args.entries.now c.loop-entry.entry-index c.loop-entry.rest (found_of c.loop-entry.walk) (omega (arith, c.loop-entry-test.false))
    ∙ some_left c.loop-entry.rest (found_of c.loop-entry.walk) (λ e. not_true (c.if-is_empty.ensures.1 e))

pub infer_spine-returns-in_err-ty-clause-outcome : goal.infer_spine-returns-in_err-ty-clause-outcome
infer_spine-returns-in_err-ty-clause-outcome t c =
    let v = c.loop-act.invariant in
    let p = err_from_is_err_and c.from_residual.result c.from_residual.ensures.1 in
    let e : c.from_residual.result ≡ Err c.in_err-ty.field-0.0 = cc (p.1, p.2) in
    gives_stop _ _ e (subst (λ w. Stops w c.in_err-ty.field-0.0) (sym v.1)
    (each_stops (elimination_after (scene_of c.args.self.now) (context_of c.args.walk.now)) plain_elim c.args.spine.now c.loop-act.act-index c.act-item.result (omega (arith, c.loop-act-test.true)) c.act-item.is (plain_ty c.loop-act.ty, found_of c.loop-act.walk) c.in_err-ty.field-0.0
    (subst (λ g. Stops (elimination_after (scene_of c.args.self.now) g (plain_elim c.act-item.result) (plain_ty c.loop-act.ty, found_of c.loop-act.walk)) c.in_err-ty.field-0.0)
    (same_context c.args.walk.now c.loop-act.walk v.0) c.in_err-ty.ensures.outcome)))
