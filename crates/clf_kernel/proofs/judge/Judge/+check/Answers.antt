use Rattle.std.proofs.Common.{◌≡◌, ◌+◌, ◌-◌, [], ◌∷◌, ◌++◌, suc, true, length, map, drop, get_or, ap, sym, subst, refl, ◌∙◌, Result, Ok, Err, OnOk, arith, add-one}
use Rattle.std.proofs.lemmas.List.{drop_all, length_push}
use Rattle.std.proofs.lemmas.Result.{err_from_is_err_and}
use Rattle.clf_syntax.specs.declared.tree.Step.{out-Step}
use Rattle.clf_syntax.specs.declared.tree.Tele.{out-Tele}
use Rattle.clf_syntax.specs.declared.tree.TeleEntry.{out-TeleEntry}
use Rattle.clf_syntax.specs.declared.tree.TupleEntry.{out-TupleEntry}
use Rattle.clf_syntax.specs.Plain.{plain_neutral, plain_obj, plain_elim, plain_expr, plain_step, plain_entry, plain-step, plain-entry}
use Rattle.clf_syntax.specs.PlainTypes.{plain_ty, plain_tele, plain_tele_entry}
use Rattle.clf_syntax.specs.Tree.{PlainExpression, done, steps_on, tuple_of}
use Rattle.clf_syntax.specs.TypeTree.{PlainTelescope, telescope_of}
use Rattle.clf_syntax.specs.Renaming.{ren_telescope, up}
use Rattle.use_contexts.specs.Marks.{marks}
use Rattle.clf_rules.specs.Refusal.{width}
use Rattle.clf_decision.specs.Outcome.{passed, and_then, at_part}
use Rattle.clf_decision.specs.Checking.{closed_scope, atomic_left, checked, checked_expression, checked_tuple}
use Rattle.clf_decision.specs.Hereditary.{hereditary}
use Rattle.clf_kernel.specs.Spine.{elimination_left, spine_left}
use Rattle.clf_kernel.specs.Answers.{plain_left, plain_inferred}
use Rattle.clf_kernel.specs.Stops.{Gives, Stops, Ends}
use Rattle.clf_kernel.specs.Trail.{EntersStep, OpensStep, OpensSteps, closed_step, closed_steps, opened_by, opened_width}
use Rattle.clf_kernel.specs.TupleEntries.{plain_rest, entry_behind}
use Rattle.clf_kernel.proofs.Stops.{part_stops, refusal_stops, then_stops}
use Rattle.clf_kernel.proofs.Spines.{spine_more, spine_stops}
use Rattle.clf_kernel.proofs.Closings.{steps_stop, opened_more}
use Rattle.clf_kernel.proofs.Opening.{open_more, open_stops}
use Rattle.clf_kernel.proofs.TupleSteps.{tuple_rest, too_long}
use Rattle.clf_kernel.proofs.Expressions.{some_entries, first_entry, tail_slice, behind_other, behind_same, expression_stops, expression_closed, step_opens, entered_width, none_opened, more_entries, stopped_entries, short_entries}
use Rattle.clf_kernel.specs.declared.judge.Judge.{Judge}
use Rattle.clf_kernel.specs.Judge.{IsEntered, IsGrown, signature_of, context_of}
use Rattle.clf_kernel.proofs.Growing.{not_grown, grown_again, grown_by_one, same_signature, entries_length}
use Rattle.clf_kernel.proofs.judge.Judge.+check.Goals as goal

pub check_neutral-returns-clause-outcome : goal.check_neutral-returns-clause-outcome
check_neutral-returns-clause-outcome t c =
    subst (λ w. Gives plain_left (and_then w (atomic_left (context_of c.args.self.now) (plain_ty c.args.ty.now))) c.check_atomic.result) (sym c.in_ok-found.ensures.outcome)
    (subst (λ j. Gives plain_left (atomic_left (context_of j) (plain_ty c.args.ty.now) (plain_inferred c.in_ok-found.found)) c.check_atomic.result) c.in_ok-found.ensures.kept c.check_atomic.ensures.outcome)

pub check_part-returns-in-Err-clause-outcome : goal.check_part-returns-in-Err-clause-outcome
check_part-returns-in-Err-clause-outcome t c = part_stops _ _ _ _ c.from_part.ensures c.in-Err.ensures.outcome

-- ---- under a lambda
left_scope : (outer inner after left : Judge) → IsEntered outer inner → after ≡ inner → ((o : Judge) → IsEntered o after → left ≡ o) → left ≡ outer
left_scope outer inner after left e k l = l outer (subst (λ x. IsEntered outer x) (sym k) e)

on_ok : {X E P : Type 0} (r : Result X E) → P → OnOk r P
on_ok (Ok x) p = p
on_ok (Err e) p = tt

pub check_body-close_scope-requires : goal.check_body-close_scope-requires
check_body-close_scope-requires t c =
    let k = left_scope c.args.self.now c.enter.new.self c.check_part.new.self c.leave.new.self c.in_ok-inner.ensures.entry c.in_ok-left.ensures.kept c.leave.ensures in
    record { marked = c.in_ok-left.ensures.marked ∙ ap length c.in_ok-inner.ensures.context ∙ ap (λ x. suc (length (context_of x))) (sym k) }

pub check_body-returns-clause-outcome : goal.check_body-returns-clause-outcome
check_body-returns-clause-outcome t c =
    let k = left_scope c.args.self.now c.enter.new.self c.check_part.new.self c.leave.new.self c.in_ok-inner.ensures.entry c.in_ok-left.ensures.kept c.leave.ensures in
    let sg = same_signature c.args.self.now c.enter.new.self (grown_by_one c.args.self.now c.enter.new.self c.in_ok-inner.ensures.entry) in
    let e = subst (λ g. at_part 0 (checked hereditary (signature_of c.args.self.now) g (true ∷ marks c.args.row) (plain_obj c.args.body.now) (plain_ty c.args.cod.now)) ≡ passed (plain_left c.in_ok-left.left))
    c.in_ok-inner.ensures.context
    (subst (λ h. at_part 0 (checked hereditary (signature_of c.args.self.now) (context_of c.enter.new.self) h (plain_obj c.args.body.now) (plain_ty c.args.cod.now)) ≡ passed (plain_left c.in_ok-left.left)) c.in_ok-inner.ensures.row
    (subst (λ s. at_part 0 (checked hereditary s (context_of c.enter.new.self) (marks c.in_ok-inner.inner) (plain_obj c.args.body.now) (plain_ty c.args.cod.now)) ≡ passed (plain_left c.in_ok-left.left)) sg c.in_ok-left.ensures.outcome)) in
    subst (λ w. Gives plain_left (and_then w (closed_scope c.args.mode (context_of c.args.self.now))) c.close_scope.result) (sym e)
    (subst (λ x. Gives plain_left (closed_scope c.args.mode (context_of x) (plain_left c.in_ok-left.left)) c.close_scope.result) k c.close_scope.ensures.outcome)

pub check_body-returns-clause-kept : goal.check_body-returns-clause-kept
check_body-returns-clause-kept t c =
    on_ok c.close_scope.result (left_scope c.args.self.now c.enter.new.self c.check_part.new.self c.leave.new.self c.in_ok-inner.ensures.entry c.in_ok-left.ensures.kept c.leave.ensures)

-- ---- along a spine
pub infer_spine-returns-in_err-inferred-clause-outcome : goal.infer_spine-returns-in_err-inferred-clause-outcome
infer_spine-returns-in_err-inferred-clause-outcome t c =
    let v = c.loop-act.invariant in
    let o = subst (λ n. Stops (elimination_left hereditary (signature_of c.args.self.now) (context_of c.args.self.now) n (plain_elim c.act-item.result) (plain_inferred c.loop-act.inferred)) c.in_err-inferred.field-0.0) v.2
    (subst (λ x. Stops (elimination_left hereditary (signature_of x) (context_of x) c.loop-act.place (plain_elim c.act-item.result) (plain_inferred c.loop-act.inferred)) c.in_err-inferred.field-0.0) v.0 c.in_err-inferred.ensures.outcome) in
    let p = err_from_is_err_and c.from_residual.result c.from_residual.ensures.1 in
    let e : c.from_residual.result ≡ Err c.in_err-inferred.field-0.0 = cc (p.1, p.2) in
    subst (λ r. Gives plain_inferred (spine_left hereditary (signature_of c.args.self.now) (context_of c.args.self.now) 0 (map plain_elim c.args.spine.now) (plain_inferred c.args.found)) r) (sym e)
    (subst (λ w. Stops w c.in_err-inferred.field-0.0) (sym v.3)
    (spine_stops (signature_of c.args.self.now) (context_of c.args.self.now) c.args.spine.now c.loop-act.act-index c.act-item.result (omega (arith, c.loop-act-test.true)) c.act-item.is (plain_inferred c.loop-act.inferred) c.in_err-inferred.field-0.0 o))

pub infer_spine-loop-act-preserved : goal.infer_spine-loop-act-preserved
infer_spine-loop-act-preserved t c =
    let v = c.loop-act.invariant in
    let o = subst (λ n. elimination_left hereditary (signature_of c.args.self.now) (context_of c.args.self.now) n (plain_elim c.act-item.result) (plain_inferred c.loop-act.inferred) ≡ passed (plain_inferred c.in_ok-inferred.inferred)) v.2
    (subst (λ x. elimination_left hereditary (signature_of x) (context_of x) c.loop-act.place (plain_elim c.act-item.result) (plain_inferred c.loop-act.inferred) ≡ passed (plain_inferred c.in_ok-inferred.inferred)) v.0 c.in_ok-inferred.ensures.outcome) in (
      c.in_ok-inferred.ensures.kept ∙ v.0,
      c.in_ok-inferred.ensures.marked ∙ ap (λ x. length (context_of x)) v.0,
      ap (λ n. n + 1) v.2,
      v.3 ∙ spine_more (signature_of c.args.self.now) (context_of c.args.self.now) c.args.spine.now c.loop-act.act-index c.act-item.result (omega (arith, c.loop-act-test.true)) c.act-item.is (plain_inferred c.loop-act.inferred) (plain_inferred c.in_ok-inferred.inferred) o,
    )

pub infer_spine-returns-clause-outcome : goal.infer_spine-returns-clause-outcome
infer_spine-returns-clause-outcome t c =
    let v = c.loop-act.invariant in
    v.3 ∙ ap (λ es. spine_left hereditary (signature_of c.args.self.now) (context_of c.args.self.now) c.loop-act.act-index (map plain_elim es) (plain_inferred c.loop-act.inferred)) (drop_all c.loop-act.act-index c.args.spine.now (omega arith))

-- ---- expressions
pub check_expression-returns-in_err-trail-clause-outcome : goal.check_expression-returns-in_err-trail-clause-outcome
check_expression-returns-in_err-trail-clause-outcome t c =
    let p = err_from_is_err_and c.from_residual.result c.from_residual.ensures.1 in
    let e : c.from_residual.result ≡ Err c.in_err-trail.field-0.0 = cc (p.1, p.2) in
    subst (λ r. Gives plain_left (checked_expression hereditary (signature_of c.args.self.now) (context_of c.args.self.now) (marks c.args.row) 0 (plain_expr c.args.expr.now) (plain_tele c.args.tele.now)) r) (sym e)
    (expression_stops hereditary (signature_of c.args.self.now) c.args.expr.now c.as_slice.result.now c.as_slice.ensures (context_of c.args.self.now) (marks c.args.row) (plain_tele c.args.tele.now) c.in_err-trail.field-0.0 c.in_err-trail.ensures.outcome)

pub check_expression-returns-in_err-left-clause-outcome : goal.check_expression-returns-in_err-left-clause-outcome
check_expression-returns-in_err-left-clause-outcome t c =
    let p = err_from_is_err_and c.from_residual-in_err-left.result c.from_residual-in_err-left.ensures.1 in
    let e : c.from_residual-in_err-left.result ≡ Err c.in_err-left.field-0.0 = cc (p.1, p.2) in
    let ds = opened_by c.in_ok-trail.trail.opened in
    let w = c.in_ok-trail.ensures.width in
    let n = c.len-older.ensures in
    let k = c.len.ensures in
    subst (λ r. Gives plain_left (checked_expression hereditary (signature_of c.args.self.now) (context_of c.args.self.now) (marks c.args.row) 0 (plain_expr c.args.expr.now) (plain_tele c.args.tele.now)) r) (sym e)
    (subst (λ w. Stops w c.in_err-left.field-0.0)
    (sym (expression_closed hereditary (signature_of c.args.self.now) c.args.expr.now c.as_slice.result.now c.as_slice.ensures c.as_slice-entries.result.now c.as_slice-entries.ensures
    (context_of c.args.self.now) (context_of c.open_steps.new.self) (marks c.args.row) (marks c.in_ok-trail.trail.row) c.in_ok-trail.trail.opened c.in_ok-types.types (plain_tele c.args.tele.now)
    (c.len.result - c.len-older.result) c.len-steps.result (length (context_of c.args.self.now)) c.in_ok-trail.ensures.outcome c.in_ok-types.ensures.raised (omega (arith, w, n, k)) (c.len-steps.ensures ∙ sym (ap length c.as_slice.ensures)) refl))
    (steps_stop (length (context_of c.args.self.now)) ds _ c.in_err-left.field-0.0
    (subst (λ s. Stops (checked_tuple hereditary s (context_of c.open_steps.new.self) (marks c.in_ok-trail.trail.row) c.len-steps.result 0 (tuple_of (map plain_entry c.as_slice-entries.result.now)) (telescope_of (map plain_tele_entry (out-Tele c.in_ok-types.types).entries))) c.in_err-left.field-0.0)
    (same_signature c.args.self.now c.open_steps.new.self c.in_ok-trail.ensures.grown) c.in_err-left.ensures.outcome)))

pub check_expression-returns-clause-outcome : goal.check_expression-returns-clause-outcome
check_expression-returns-clause-outcome t c =
    let ds = opened_by c.in_ok-trail.trail.opened in
    let w = c.in_ok-trail.ensures.width in
    let n = c.len-older.ensures in
    let k = c.len.ensures in
    let m = c.in_ok-left.ensures.marked ∙ w ∙ ap (λ os. opened_width (opened_by os) + length (context_of c.args.self.now)) (sym c.as_slice-2.ensures) in
    subst (λ w. Gives plain_left w c.close_steps.result)
    (sym (expression_closed hereditary (signature_of c.args.self.now) c.args.expr.now c.as_slice.result.now c.as_slice.ensures c.as_slice-entries.result.now c.as_slice-entries.ensures
    (context_of c.args.self.now) (context_of c.open_steps.new.self) (marks c.args.row) (marks c.in_ok-trail.trail.row) c.in_ok-trail.trail.opened c.in_ok-types.types (plain_tele c.args.tele.now)
    (c.len.result - c.len-older.result) c.len-steps.result (length (context_of c.args.self.now)) c.in_ok-trail.ensures.outcome c.in_ok-types.ensures.raised (omega (arith, w, n, k)) (c.len-steps.ensures ∙ sym (ap length c.as_slice.ensures)) refl
    ∙ ap (closed_steps (length (context_of c.args.self.now)) ds)
    (subst (λ s. checked_tuple hereditary s (context_of c.open_steps.new.self) (marks c.in_ok-trail.trail.row) c.len-steps.result 0 (tuple_of (map plain_entry c.as_slice-entries.result.now)) (telescope_of (map plain_tele_entry (out-Tele c.in_ok-types.types).entries)) ≡ passed (plain_left c.in_ok-left.left))
    (same_signature c.args.self.now c.open_steps.new.self c.in_ok-trail.ensures.grown) c.in_ok-left.ensures.outcome)))
    (subst (λ os. Gives plain_left (closed_steps (length (context_of c.args.self.now)) (opened_by os) (passed (plain_left c.in_ok-left.left))) c.close_steps.result) c.as_slice-2.ensures (c.close_steps.ensures.outcome (length (context_of c.args.self.now)) m))

pub check_expression-returns-clause-marked : goal.check_expression-returns-clause-marked
check_expression-returns-clause-marked t c =
    c.close_steps.ensures.marked (length (context_of c.args.self.now))
    (c.in_ok-left.ensures.marked ∙ c.in_ok-trail.ensures.width ∙ ap (λ os. opened_width (opened_by os) + length (context_of c.args.self.now)) (sym c.as_slice-2.ensures))

pub check_expression-returns-clause-kept : goal.check_expression-returns-clause-kept
check_expression-returns-clause-kept t c =
    on_ok c.close_steps.result (c.leave_to.ensures c.args.self.now (subst (λ x. IsGrown c.args.self.now x) (sym c.in_ok-left.ensures.kept) c.in_ok-trail.ensures.grown) (sym (entries_length c.args.self.now.ctx) ∙ sym c.len-older.ensures))

-- ---- tuples
pub check_tuple-returns-then-is_empty-clause-outcome : goal.check_tuple-returns-then-is_empty-clause-outcome
check_tuple-returns-then-is_empty-clause-outcome t c =
    let v = c.loop-entry.invariant in
    let none : c.loop-entry.rest.types ≡ [] = c.is_empty.ensures.0 c.if-is_empty.true in
    let i = c.loop-entry.entry-index in
    subst (λ w. Stops w c.too_long.result)
    (sym (v.3
    ∙ ap (λ ts. tuple_rest hereditary (signature_of c.args.self.now) (context_of c.args.self.now) c.args.steps i (tuple_of (map plain_entry (drop i c.args.entries.now))) (telescope_of (map plain_tele_entry ts), plain_left c.loop-entry.rest.left)) none
    ∙ too_long hereditary (signature_of c.args.self.now) (context_of c.args.self.now) c.args.steps c.args.entries.now i c.entry-item.result (omega (arith, c.loop-entry-test.true)) c.entry-item.is (plain_left c.loop-entry.rest.left)))
    (refusal_stops _ [] _ c.too_long.result (subst (λ n. Ends [] (width n (length c.args.entries.now)) c.too_long.result) v.2 c.too_long.ensures))

pub check_tuple-overflow_add-steps : goal.check_tuple-overflow_add-steps
check_tuple-overflow_add-steps t c = let r = c.requires.room in let v = c.loop-entry.invariant.2 in omega (arith, r, v, c.loop-entry-test.true)

pub check_tuple-returns-in_err-rest-clause-outcome : goal.check_tuple-returns-in_err-rest-clause-outcome
check_tuple-returns-in_err-rest-clause-outcome t c =
    let v = c.loop-entry.invariant in
    let p = err_from_is_err_and c.from_residual.result c.from_residual.ensures.1 in
    let e : c.from_residual.result ≡ Err c.in_err-rest.field-0.0 = cc (p.1, p.2) in
    let some = some_entries c.loop-entry.rest.types (λ q. let b = c.is_empty.ensures.1 q in let f = c.if-is_empty.false in cc) in
    let o = subst (λ n. Stops (entry_behind hereditary (signature_of c.args.self.now) (context_of c.args.self.now) (c.args.steps + n) (plain_entry c.entry-item.result) (plain_rest c.loop-entry.rest)) c.in_err-rest.field-0.0) v.2
    (subst (λ x. Stops (entry_behind hereditary (signature_of x) (context_of x) (c.args.steps + c.loop-entry.before) (plain_entry c.entry-item.result) (plain_rest c.loop-entry.rest)) c.in_err-rest.field-0.0) v.0 c.in_err-rest.ensures.outcome) in
    subst (λ r. Gives plain_left (checked_tuple hereditary (signature_of c.args.self.now) (context_of c.args.self.now) (marks c.args.row) c.args.steps 0 (tuple_of (map plain_entry c.args.entries.now)) (telescope_of (map plain_tele_entry c.args.types))) r) (sym e)
    (subst (λ w. Stops w c.in_err-rest.field-0.0) (sym v.3)
    (stopped_entries hereditary (signature_of c.args.self.now) (context_of c.args.self.now) c.args.steps c.args.entries.now c.loop-entry.entry-index c.entry-item.result (omega (arith, c.loop-entry-test.true)) c.entry-item.is c.loop-entry.rest.types (plain_left c.loop-entry.rest.left) c.in_err-rest.field-0.0 some o))

pub check_tuple-loop-entry-preserved : goal.check_tuple-loop-entry-preserved
check_tuple-loop-entry-preserved t c =
    let v = c.loop-entry.invariant in
    let some = some_entries c.loop-entry.rest.types (λ q. let b = c.is_empty.ensures.1 q in let f = c.if-is_empty.false in cc) in
    let o = subst (λ n. entry_behind hereditary (signature_of c.args.self.now) (context_of c.args.self.now) (c.args.steps + n) (plain_entry c.entry-item.result) (plain_rest c.loop-entry.rest) ≡ passed (plain_rest c.in_ok-rest.rest)) v.2
    (subst (λ x. entry_behind hereditary (signature_of x) (context_of x) (c.args.steps + c.loop-entry.before) (plain_entry c.entry-item.result) (plain_rest c.loop-entry.rest) ≡ passed (plain_rest c.in_ok-rest.rest)) v.0 c.in_ok-rest.ensures.outcome) in (
      c.in_ok-rest.ensures.kept ∙ v.0,
      c.in_ok-rest.ensures.marked ∙ ap (λ x. length (context_of x)) v.0,
      ap (λ n. n + 1) v.2,
      v.3 ∙ more_entries hereditary (signature_of c.args.self.now) (context_of c.args.self.now) c.args.steps c.args.entries.now c.loop-entry.entry-index c.entry-item.result (omega (arith, c.loop-entry-test.true)) c.entry-item.is c.loop-entry.rest.types (plain_left c.loop-entry.rest.left) (plain_rest c.in_ok-rest.rest) some o,
    )

pub check_tuple-returns-then-not-is_empty-clause-outcome : goal.check_tuple-returns-then-not-is_empty-clause-outcome
check_tuple-returns-then-not-is_empty-clause-outcome t c =
    let v = c.loop-entry.invariant in
    let i = c.loop-entry.entry-index in
    let some = some_entries c.loop-entry.rest.types (λ q. let b = c.is_empty-2.ensures.1 q in let f = c.if-not-is_empty.true in cc) in
    subst (λ w. Stops w c.too_short.result)
    (sym (v.3
    ∙ ap (λ es. tuple_rest hereditary (signature_of c.args.self.now) (context_of c.args.self.now) c.args.steps i (tuple_of (map plain_entry es)) (plain_rest c.loop-entry.rest)) (drop_all i c.args.entries.now (omega (arith, c.loop-entry-test.false)))
    ∙ short_entries hereditary (signature_of c.args.self.now) (context_of c.args.self.now) c.args.steps i c.loop-entry.rest.types (plain_left c.loop-entry.rest.left) some))
    (refusal_stops _ [] _ c.too_short.result (subst (λ n. Ends [] (width (n + length c.loop-entry.rest.types) n) c.too_short.result) v.2 (subst (λ n. Ends [] (width (c.loop-entry.before + n) c.loop-entry.before) c.too_short.result) c.len.ensures c.too_short.ensures)))

pub check_tuple_entry-returns-then-not-is_same_mode-clause-outcome : goal.check_tuple_entry-returns-then-not-is_same_mode-clause-outcome
check_tuple_entry-returns-then-not-is_same_mode-clause-outcome t c =
    let x = c.index-as_slice-0.result in
    let ts = c.args.rest.types in
    let a = first_entry ts x c.requires.there (c.index-as_slice-0.is ∙ ap (λ l. get_or l 0 x) c.as_slice.ensures) in
    subst (λ w. Stops w c.refuse_at.result)
    (sym (ap (λ e. entry_behind hereditary (signature_of c.args.self.now) (context_of c.args.self.now) c.args.place e (plain_rest c.args.rest)) (plain-entry c.args.entry.now)
    ∙ behind_other hereditary (signature_of c.args.self.now) (context_of c.args.self.now) c.args.place ((out-TupleEntry c.args.entry.now).mode, plain_obj (out-TupleEntry c.args.entry.now).obj) ts (drop 1 ts) x (plain_left c.args.rest.left) a (sym c.is_same_mode.ensures ∙ c.if-not-is_same_mode.true)))
    (refusal_stops _ (c.args.place ∷ []) _ c.refuse_at.result c.refuse_at.ensures)

pub check_tuple_entry-returns-in_err-left-clause-outcome : goal.check_tuple_entry-returns-in_err-left-clause-outcome
check_tuple_entry-returns-in_err-left-clause-outcome t c =
    let x = c.index-as_slice-0.result in
    let ts = c.args.rest.types in
    let a = first_entry ts x c.requires.there (c.index-as_slice-0.is ∙ ap (λ l. get_or l 0 x) c.as_slice.ensures) in
    let p = err_from_is_err_and c.from_residual.result c.from_residual.ensures.1 in
    let e : c.from_residual.result ≡ Err c.in_err-left.field-0.0 = cc (p.1, p.2) in
    subst (λ r. Gives plain_rest (entry_behind hereditary (signature_of c.args.self.now) (context_of c.args.self.now) c.args.place (plain_entry c.args.entry.now) (plain_rest c.args.rest)) r) (sym e)
    (subst (λ w. Stops w c.in_err-left.field-0.0)
    (sym (ap (λ e. entry_behind hereditary (signature_of c.args.self.now) (context_of c.args.self.now) c.args.place e (plain_rest c.args.rest)) (plain-entry c.args.entry.now)
    ∙ behind_same hereditary (signature_of c.args.self.now) (context_of c.args.self.now) c.args.place ((out-TupleEntry c.args.entry.now).mode, plain_obj (out-TupleEntry c.args.entry.now).obj) ts (drop 1 ts) x (plain_left c.args.rest.left) a (sym c.is_same_mode.ensures ∙ c.if-not-is_same_mode.false)))
    (then_stops _ _ c.in_err-left.field-0.0 c.in_err-left.ensures.outcome))

pub check_tuple_entry-returns-clause-outcome : goal.check_tuple_entry-returns-clause-outcome
check_tuple_entry-returns-clause-outcome t c =
    let x = c.index-as_slice-0.result in
    let ts = c.args.rest.types in
    let a = first_entry ts x c.requires.there (c.index-as_slice-0.is ∙ ap (λ l. get_or l 0 x) c.as_slice.ensures) in
    ap (λ e. entry_behind hereditary (signature_of c.args.self.now) (context_of c.args.self.now) c.args.place e (plain_rest c.args.rest)) (plain-entry c.args.entry.now)
    ∙ behind_same hereditary (signature_of c.args.self.now) (context_of c.args.self.now) c.args.place ((out-TupleEntry c.args.entry.now).mode, plain_obj (out-TupleEntry c.args.entry.now).obj) ts (drop 1 ts) x (plain_left c.args.rest.left) a (sym c.is_same_mode.ensures ∙ c.if-not-is_same_mode.false)
    ∙ ap (λ w. and_then w (λ z. passed (hereditary.into_telescope (plain_obj (out-TupleEntry c.args.entry.now).obj) (plain_ty (out-TeleEntry x).ty) (telescope_of (map plain_tele_entry (drop 1 ts))), z))) c.in_ok-left.ensures.outcome
    ∙ ap (λ v. passed (v, plain_left c.in_ok-left.left)) (ap (λ l. hereditary.into_telescope (plain_obj (out-TupleEntry c.args.entry.now).obj) (plain_ty (out-TeleEntry x).ty) (telescope_of (map plain_tele_entry (drop 1 l)))) (sym c.as_slice-2.ensures)
    ∙ ap (λ l. hereditary.into_telescope (plain_obj (out-TupleEntry c.args.entry.now).obj) (plain_ty (out-TeleEntry x).ty) (telescope_of (map plain_tele_entry l))) (sym (tail_slice c.as_slice-2.result.now))
    ∙ sym c.in_ok-types.ensures.put)

-- ---- steps
pub open_step-returns-in-Ok-clause-outcome : goal.open_step-returns-in-Ok-clause-outcome
open_step-returns-in-Ok-clause-outcome t c =
    let s = plain-step c.args.step.now in
    subst (λ d. OpensStep hereditary (signature_of c.args.self.now) c.args.place d (context_of c.args.self.now) (marks c.args.row) (context_of c.enter_step.new.self) c.enter_step.result) (sym s)
    (step_opens hereditary (signature_of c.args.self.now) c.enter_step.result c.args.place ((out-Step c.args.step.now).modes, plain_neutral (out-Step c.args.step.now).rhs) (context_of c.args.self.now) (context_of c.enter_step.new.self) (marks c.args.row) (plain_inferred c.in-Ok.found) c.in-Ok.ensures.outcome
    (subst (λ x. EntersStep c.args.place (out-Step c.args.step.now).modes (context_of x) (plain_inferred c.in-Ok.found) (context_of c.enter_step.new.self) c.enter_step.result) c.in-Ok.ensures.kept c.enter_step.ensures.outcome))

pub open_step-returns-in-Ok-clause-width : goal.open_step-returns-in-Ok-clause-width
open_step-returns-in-Ok-clause-width t c =
    entered_width hereditary (signature_of c.args.self.now) c.enter_step.result c.args.place (out-Step c.args.step.now).modes (context_of c.args.self.now) (context_of c.enter_step.new.self) (plain_inferred c.in-Ok.found)
    (subst (λ x. EntersStep c.args.place (out-Step c.args.step.now).modes (context_of x) (plain_inferred c.in-Ok.found) (context_of c.enter_step.new.self) c.enter_step.result) c.in-Ok.ensures.kept c.enter_step.ensures.outcome)

pub open_steps-loop-step-init : goal.open_steps-loop-step-init
open_steps-loop-step-init t c =
    let n = ap length c.new-opened.ensures in (
      refl,
      n,
      not_grown c.args.self.now,
      (let w = ap (λ os. opened_width (opened_by os)) c.new-opened.ensures in omega (arith, w)),
      c.requires.marked,
      (λ u s. none_opened hereditary (signature_of c.args.self.now) c.new-opened.result c.new-opened.ensures (context_of c.args.self.now) (marks c.args.row) (length (context_of c.args.self.now)) (steps_on (map plain_step c.args.steps.now) (done u)) s),
    )

pub open_steps-returns-in_err-entered-clause-outcome : goal.open_steps-returns-in_err-entered-clause-outcome
open_steps-returns-in_err-entered-clause-outcome t c =
    let v = c.loop-step.invariant in
    let p = err_from_is_err_and c.from_residual.result c.from_residual.ensures.1 in
    let e : c.from_residual.result ≡ Err c.in_err-entered.field-0.0 = cc (p.1, p.2) in
    subst (λ r. OpensSteps hereditary (signature_of c.args.self.now) (map plain_step c.args.steps.now) (context_of c.args.self.now) (marks c.args.row) (context_of c.open_step.new.self) r) (sym e)
    (λ u s. subst (λ w. Stops w c.in_err-entered.field-0.0) (sym (v.5 u s))
    (open_stops hereditary (signature_of c.args.self.now) c.args.steps.now c.loop-step.step-index c.step-item.result (omega (arith, c.loop-step-test.true)) c.step-item.is (context_of c.loop-step.self) (marks c.loop-step.row) (length (context_of c.args.self.now)) c.loop-step.opened c.in_err-entered.field-0.0
    (subst (λ n. (x : PlainExpression) (s : PlainTelescope) → Stops (checked_expression hereditary (signature_of c.args.self.now) (context_of c.loop-step.self) (marks c.loop-step.row) n (steps_on (plain_step c.step-item.result ∷ []) x) s) c.in_err-entered.field-0.0) v.0
    (subst (λ sg. (x : PlainExpression) (s : PlainTelescope) → Stops (checked_expression hereditary sg (context_of c.loop-step.self) (marks c.loop-step.row) c.loop-step.place (steps_on (plain_step c.step-item.result ∷ []) x) s) c.in_err-entered.field-0.0)
    (same_signature c.args.self.now c.loop-step.self v.2) c.in_err-entered.ensures.outcome)) u s))

pub open_steps-loop-step-preserved : goal.open_steps-loop-step-preserved
open_steps-loop-step-preserved t c =
    let v = c.loop-step.invariant in
    let o = c.in_ok-entered.entered.opened in
    let os = c.loop-step.opened in
    let q = c.in_ok-push.ensures.ok in
    let more = opened_more os o in
    let x = subst (λ n. (x : PlainExpression) (s : PlainTelescope) → checked_expression hereditary (signature_of c.args.self.now) (context_of c.loop-step.self) (marks c.loop-step.row) n (steps_on (plain_step c.step-item.result ∷ []) x) s
    ≡ closed_step n (plain_step c.step-item.result).0 (length (context_of c.loop-step.self)) o.slack (checked_expression hereditary (signature_of c.args.self.now) (context_of c.open_step.new.self) (marks c.in_ok-entered.entered.row) (suc n) x (ren_telescope (up (length (plain_step c.step-item.result).0)) s))) v.0
    (subst (λ sg. (x : PlainExpression) (s : PlainTelescope) → checked_expression hereditary sg (context_of c.loop-step.self) (marks c.loop-step.row) c.loop-step.place (steps_on (plain_step c.step-item.result ∷ []) x) s
    ≡ closed_step c.loop-step.place (plain_step c.step-item.result).0 (length (context_of c.loop-step.self)) o.slack (checked_expression hereditary sg (context_of c.open_step.new.self) (marks c.in_ok-entered.entered.row) (suc c.loop-step.place) x (ren_telescope (up (length (plain_step c.step-item.result).0)) s)))
    (same_signature c.args.self.now c.loop-step.self v.2) c.in_ok-entered.ensures.outcome.1) in
    let w = c.in_ok-entered.ensures.width in
    let k = v.3 in
    let m = ap opened_width more in
    let j = ap (λ l. opened_width (opened_by l)) q in (
      ap (λ n. n + 1) v.0,
      ap length q ∙ length_push os o ∙ ap (λ n. n + 1) v.1,
      grown_again c.args.self.now c.loop-step.self c.open_step.new.self v.2 c.in_ok-entered.ensures.grown,
      omega (arith, w, k, m, j),
      c.in_ok-entered.ensures.marked,
      (λ u s.
          v.5 u s
          ∙ open_more hereditary (signature_of c.args.self.now) c.args.steps.now c.loop-step.step-index c.step-item.result (omega (arith, c.loop-step-test.true)) c.step-item.is (context_of c.loop-step.self) (context_of c.open_step.new.self) (marks c.loop-step.row) (marks c.in_ok-entered.entered.row)
          (length (context_of c.args.self.now)) os o v.1 v.3 c.in_ok-entered.ensures.outcome.0 x u s
          ∙ ap (λ n. closed_steps (length (context_of c.args.self.now)) (opened_by (os ++ o ∷ [])) (checked_expression hereditary (signature_of c.args.self.now) (context_of c.open_step.new.self) (marks c.in_ok-entered.entered.row) n (steps_on (map plain_step (drop n c.args.steps.now)) (done u)) (ren_telescope (up (opened_width (opened_by (os ++ o ∷ [])))) s))) (sym (add-one c.loop-step.step-index))
          ∙ ap (λ l. closed_steps (length (context_of c.args.self.now)) (opened_by l) (checked_expression hereditary (signature_of c.args.self.now) (context_of c.open_step.new.self) (marks c.in_ok-entered.entered.row) (c.loop-step.step-index + 1) (steps_on (map plain_step (drop (c.loop-step.step-index + 1) c.args.steps.now)) (done u)) (ren_telescope (up (opened_width (opened_by l))) s))) (sym q)),
    )
