use Rattle.std.proofs.Common.{◌∙◌, ◌<◌, ◌≤◌, ap, sym, subst, map, length, replicate, Some, get_or, arith}
use Rattle.std.specs.Prelude.{Option}
use Rattle.clf_syntax.specs.Plain.{plain_entry, plain_step}
use Rattle.clf_syntax.specs.declared.tree.Expr.{out-Expr}
use Rattle.trace_equal.specs.declared.choice.Taken.{Taken}
use Rattle.trace_equal.specs.declared.backtracking.Turn.{Turn}
use Rattle.trace_equal.specs.declared.tables.Tables.{Tables}
use Rattle.trace_equal.specs.Comparing.{count_from, run_of, runs_from, with_left, zipped}
use Rattle.trace_equal.specs.Places.{from_on}
use Rattle.trace_equal.specs.Choosing.{is_free}
use Rattle.trace_equal.specs.Seeking.{Advances, IsNext, problem, served_at}
use Rattle.trace_equal.proofs.ComparingLaws.{tuples_of_two_lengths}
use Rattle.trace_equal.proofs.Bijections.{map_length}
use Rattle.trace_equal.proofs.Seeking.{no_candidates, none_serves, not_joined, serves_takes, stands_back, stands_complete, stands_first, stands_further, work, work-back, work-take}
use Rattle.trace_equal.proofs.Turns.{at_map, candidate-serves, first-found, first-none, neutral-answer, ok_by, past_all, past_map, room, served-no_run, served-no_step, served-step, served_ok_by, spines_differ, tries-skip, unmarked}
use Rattle.trace_equal.proofs.+compare.Goals as goal

pub objects::joined_neutral-returns-then-is_same_head-clause-answer : goal.objects::joined_neutral-returns-then-is_same_head-clause-answer
objects::joined_neutral-returns-then-is_same_head-clause-answer t c = ok_by c.joined_spine.result _ _
    (neutral-answer c.args.tables.now c.args.left.now c.args.right.now _ _ c.as_slice.ensures c.as_slice-then-is_same_head.ensures (sym c.is_same_head.ensures ∙ c.if-is_same_head.true)) c.joined_spine.ensures.answer

pub objects::joined_spine-returns-then-left-right-clause-answer : goal.objects::joined_spine-returns-then-left-right-clause-answer
objects::joined_spine-returns-then-left-right-clause-answer t c = spines_differ c.args.tables.now c.args.left.now c.args.right.now c.if-left-right.true

pub objects::joined_tuple-returns-then-left-right-clause-answer : goal.objects::joined_tuple-returns-then-left-right-clause-answer
objects::joined_tuple-returns-then-left-right-clause-answer t c = sym (tuples_of_two_lengths c.args.tables.now (map plain_entry c.args.left.now) (map plain_entry c.args.right.now)
    (λ e. c.if-left-right.true (sym (map_length plain_entry c.args.left.now) ∙ e ∙ map_length plain_entry c.args.right.now)))

pub serving::next_taken-returns-in-Some-clause-next : goal.serving::next_taken-returns-in-Some-clause-next
serving::next_taken-returns-in-Some-clause-next t c used m = candidate-serves (zipped c.args.rights.now.before (map plain_step c.args.right.now)) c.args.tables.now used (plain_step c.args.left.now) c.args.places.now c.args.from
    c.loop-number.number c.in-Some.run' c.args.choice.now.used (omega arith) c.loop-number-test.true m
    (sym c.in-Some.is ∙ c.in_ok-run.ensures.answer ∙ ap (λ (s : Tables). served_at s c.args.choice.now.used (plain_step c.args.left.now) (zipped c.args.rights.now.before (map plain_step c.args.right.now)) (get_or c.args.places.now c.loop-number.number 0)) c.loop-number.invariant.kept)
    (c.loop-number.invariant.passed used m)

pub serving::next_taken-returns-clause-next : goal.serving::next_taken-returns-clause-next
serving::next_taken-returns-clause-next t c used m rest = c.loop-number.invariant.passed used m rest
    ∙ past_all rest (zipped c.args.rights.now.before (map plain_step c.args.right.now)) c.args.tables.now used (plain_step c.args.left.now) c.args.places.now c.loop-number.number (omega arith)

pub serving::next_taken-loop-number-preserved : goal.serving::next_taken-loop-number-preserved
serving::next_taken-loop-number-preserved t c = record {
  kept = c.in_ok-run.ensures.kept ∙ c.loop-number.invariant.kept;
  passed = λ used m rest. c.loop-number.invariant.passed used m rest
      ∙ tries-skip rest (zipped c.args.rights.now.before (map plain_step c.args.right.now)) c.args.tables.now used (plain_step c.args.left.now) c.args.places.now c.loop-number.number c.loop-number-test.true c.args.choice.now.used m
      (sym c.in_default.is ∙ c.in_ok-run.ensures.answer ∙ ap (λ (s : Tables). served_at s c.args.choice.now.used (plain_step c.args.left.now) (zipped c.args.rights.now.before (map plain_step c.args.right.now)) (get_or c.args.places.now c.loop-number.number 0)) c.loop-number.invariant.kept);
}

pub backtracking::search-loop-choice-init : goal.backtracking::search-loop-choice-init
backtracking::search-loop-choice-init t c = stands_first (problem c.args.left.now c.args.right.now c.args.rights.now.before c.args.rights.now.all (map (λ b. b.now) c.args.candidates.now)) c.args.tables.now c.in_ok-choice.choice c.in_ok-choice.ensures.taken
    (λ j. ap (λ m. is_free m j) c.in_ok-choice.ensures.used ∙ unmarked c.len.result j)
    (subst (λ m. length (zipped c.args.rights.now.before (map plain_step (out-Expr c.args.right.now).steps)) ≤ length m) (sym c.in_ok-choice.ensures.used) (room c.args.rights.now.before (out-Expr c.args.right.now).steps c.len.result c.len.ensures))

pub backtracking::search-returns-in-Complete-clause-found : goal.backtracking::search-returns-in-Complete-clause-found
backtracking::search-returns-in-Complete-clause-found t c =
    let h = c.loop-choice.invariant in
    let p = problem c.args.left.now c.args.right.now c.args.rights.now.before c.args.rights.now.all (map (λ b. b.now) c.args.candidates.now) in
    let turn = subst (λ (o : Turn). Advances p (length c.loop-choice.choice.taken) c.loop-choice.tables h.used c.loop-choice.from o) c.in-Complete.is (c.in_ok-advance.ensures.advances h.used h.marks) in
    ap (λ ps. Some ps) c.in_ok-places-in-Complete.ensures ∙ (stands_complete p c.args.tables.now c.loop-choice.tables c.loop-choice.choice c.loop-choice.from h turn).0

pub backtracking::search-returns-in-Complete-clause-kept : goal.backtracking::search-returns-in-Complete-clause-kept
backtracking::search-returns-in-Complete-clause-kept t c =
    let h = c.loop-choice.invariant in
    let p = problem c.args.left.now c.args.right.now c.args.rights.now.before c.args.rights.now.all (map (λ b. b.now) c.args.candidates.now) in
    let turn = subst (λ (o : Turn). Advances p (length c.loop-choice.choice.taken) c.loop-choice.tables h.used c.loop-choice.from o) c.in-Complete.is (c.in_ok-advance.ensures.advances h.used h.marks) in
    let (rs, e, f) = (stands_complete p c.args.tables.now c.loop-choice.tables c.loop-choice.choice c.loop-choice.from h turn).1 in
    c.leave_steps.ensures c.args.tables.now rs (c.in_ok-advance.ensures.kept ∙ e) (f ∙ sym c.len-in-Complete.ensures)

pub backtracking::search-loop-choice-smaller-in-Take : goal.backtracking::search-loop-choice-smaller-in-Take
backtracking::search-loop-choice-smaller-in-Take t c =
    let h = c.loop-choice.invariant in
    let p = problem c.args.left.now c.args.right.now c.args.rights.now.before c.args.rights.now.all (map (λ b. b.now) c.args.candidates.now) in
    let turn = subst (λ (o : Turn). Advances p (length c.loop-choice.choice.taken) c.loop-choice.tables h.used c.loop-choice.from o) c.in-Take.is (c.in_ok-advance.ensures.advances h.used h.marks) in
    subst (λ ts. work p.candidates ts 0 < work p.candidates c.loop-choice.choice.taken c.loop-choice.from) (sym c.in_ok-take-in-Take.ensures.taken)
    (work-take p.candidates c.loop-choice.choice.taken c.loop-choice.from c.in-Take.taken turn.within.0 turn.within.1 turn.later turn.within.2)

pub backtracking::search-loop-choice-preserved-in-Take : goal.backtracking::search-loop-choice-preserved-in-Take
backtracking::search-loop-choice-preserved-in-Take t c =
    let h = c.loop-choice.invariant in
    let p = problem c.args.left.now c.args.right.now c.args.rights.now.before c.args.rights.now.all (map (λ b. b.now) c.args.candidates.now) in
    let turn = subst (λ (o : Turn). Advances p (length c.loop-choice.choice.taken) c.loop-choice.tables h.used c.loop-choice.from o) c.in-Take.is (c.in_ok-advance.ensures.advances h.used h.marks) in
    stands_further p c.args.tables.now c.loop-choice.tables c.enter_left.new.self c.loop-choice.choice c.take.new.self c.loop-choice.from c.in-Take.taken h turn c.in_ok-take-in-Take.ensures.taken c.in_ok-take-in-Take.ensures.used
    (c.in_ok-enter_left-in-Take.ensures ∙ ap (λ (s : Tables). with_left s c.in-Take.taken.run) c.in_ok-advance.ensures.kept)

pub backtracking::search-loop-choice-smaller : goal.backtracking::search-loop-choice-smaller
backtracking::search-loop-choice-smaller t c =
    let cs = map (λ b. b.now) c.args.candidates.now in
    subst (λ ts. work cs c.give_back.new.self.taken c.in-Some.last.next < work cs ts c.loop-choice.from) (sym c.in-Some.ensures.taken)
    (work-back cs c.give_back.new.self.taken c.loop-choice.from c.in-Some.last)

pub backtracking::search-loop-choice-preserved : goal.backtracking::search-loop-choice-preserved
backtracking::search-loop-choice-preserved t c =
    let h = c.loop-choice.invariant in
    let p = problem c.args.left.now c.args.right.now c.args.rights.now.before c.args.rights.now.all (map (λ b. b.now) c.args.candidates.now) in
    let turn = subst (λ (o : Turn). Advances p (length c.loop-choice.choice.taken) c.loop-choice.tables h.used c.loop-choice.from o) c.in-Back.is (c.in_ok-advance.ensures.advances h.used h.marks) in
    stands_back p c.args.tables.now c.loop-choice.tables c.leave_left.new.self c.loop-choice.choice c.give_back.new.self c.loop-choice.from c.in-Some.last h turn c.in-Some.ensures.taken c.in-Some.ensures.used
    (λ x r e. c.leave_left.ensures x r (c.in_ok-advance.ensures.kept ∙ e))

pub backtracking::first_matching-returns-then-len-count-clause-found : goal.backtracking::first_matching-returns-then-len-count-clause-found
backtracking::first_matching-returns-then-len-count-clause-found t c = first-none c.args.tables.now c.args.left.now c.args.right.now (λ e. c.if-len-count.true (c.len.ensures ∙ e ∙ sym c.len-count.ensures))

pub backtracking::first_matching-returns-clause-found : goal.backtracking::first_matching-returns-clause-found
backtracking::first_matching-returns-clause-found t c = c.in_ok-found.ensures.found
    ∙ first-found c.args.tables.now c.args.left.now c.args.right.now c.in_ok-rights.rights.before c.in_ok-rights.rights.all (map (λ b. b.now) c.as_slice-3.result.now) c.in_ok-tables.field-0
    (sym c.len.ensures ∙ c.if-len-count.false ∙ c.len-count.ensures)
    (c.in_ok-rights.ensures.before ∙ ap (λ xs. runs_from c.args.tables.now.fresh 0 (map plain_step xs)) c.as_slice.ensures)
    (c.in_ok-rights.ensures.all ∙ ap (λ xs. run_of c.args.tables.now.fresh (count_from 0 (map plain_step xs))) c.as_slice.ensures)
    (ap (λ bs. map (λ b. b.now) bs) c.as_slice-3.ensures ∙ c.in_ok-candidates.ensures ∙ ap (λ js. replicate c.len-count.result js) (c.as_slice-2.ensures ∙ c.in_ok-places.ensures)
    ∙ ap (λ n. replicate n (from_on 0 n)) c.len-count.ensures)
    c.in_ok-tables.ensures

pub backtracking::advance-returns-in-Some-2-clause-advances : goal.backtracking::advance-returns-in-Some-2-clause-advances
backtracking::advance-returns-in-Some-2-clause-advances t c used m =
    let p = problem c.args.left.now c.args.right.now c.args.rights.now.before c.args.rights.now.all (map (λ b. b.now) c.args.candidates.now) in
    let next = subst (λ (o : Option Taken). IsNext p.rights c.args.tables.now used (plain_step c.in-Some.step.now) c.in-Some-at.places.now.now c.args.from o) c.in-Some-2.is
    (subst (λ xs. IsNext (zipped c.args.rights.now.before (map plain_step xs)) c.args.tables.now used (plain_step c.in-Some.step.now) c.in-Some-at.places.now.now c.args.from c.in_ok-taken-in-Some-at.field-0) c.as_slice-steps.ensures
    (c.in_ok-taken-in-Some-at.ensures.next used m)) in
    serves_takes p (length c.args.choice.now.taken) c.args.tables.now used c.args.from (plain_step c.in-Some.step.now) c.in-Some-at.places.now.now c.in-Some-2.taken
    (at_map plain_step (out-Expr c.args.left.now).steps c.len-count.result (length c.args.choice.now.taken) c.in-Some.step.now c.in-Some.ensures.value c.len-count.ensures)
    (at_map (λ b. b.now) c.args.candidates.now c.len-count.result (length c.args.choice.now.taken) c.in-Some-at.places.now c.in-Some-at.ensures c.len-count.ensures)
    next

pub backtracking::advance-returns-in-None-2-clause-advances : goal.backtracking::advance-returns-in-None-2-clause-advances
backtracking::advance-returns-in-None-2-clause-advances t c used m =
    let p = problem c.args.left.now c.args.right.now c.args.rights.now.before c.args.rights.now.all (map (λ b. b.now) c.args.candidates.now) in
    let next = subst (λ (o : Option Taken). IsNext p.rights c.args.tables.now used (plain_step c.in-Some.step.now) c.in-Some-at.places.now.now c.args.from o) c.in-None-2.is
    (subst (λ xs. IsNext (zipped c.args.rights.now.before (map plain_step xs)) c.args.tables.now used (plain_step c.in-Some.step.now) c.in-Some-at.places.now.now c.args.from c.in_ok-taken-in-Some-at.field-0) c.as_slice-steps.ensures
    (c.in_ok-taken-in-Some-at.ensures.next used m)) in
    none_serves p (length c.args.choice.now.taken) c.args.tables.now used c.args.from (plain_step c.in-Some.step.now) c.in-Some-at.places.now.now
    (at_map plain_step (out-Expr c.args.left.now).steps c.len-count.result (length c.args.choice.now.taken) c.in-Some.step.now c.in-Some.ensures.value c.len-count.ensures)
    (at_map (λ b. b.now) c.args.candidates.now c.len-count.result (length c.args.choice.now.taken) c.in-Some-at.places.now c.in-Some-at.ensures c.len-count.ensures)
    next

pub backtracking::advance-returns-in-None-at-clause-advances : goal.backtracking::advance-returns-in-None-at-clause-advances
backtracking::advance-returns-in-None-at-clause-advances t c used m =
    let p = problem c.args.left.now c.args.right.now c.args.rights.now.before c.args.rights.now.all (map (λ b. b.now) c.args.candidates.now) in
    no_candidates p (length c.args.choice.now.taken) c.args.tables.now used c.args.from (plain_step c.in-Some.step.now)
    (at_map plain_step (out-Expr c.args.left.now).steps c.len-count.result (length c.args.choice.now.taken) c.in-Some.step.now c.in-Some.ensures.value c.len-count.ensures)
    (past_map (λ b. b.now) c.args.candidates.now c.len-count.result (length c.args.choice.now.taken) c.in-None-at.ensures c.len-count.ensures)

pub backtracking::advance-returns-else-branch-clause-advances : goal.backtracking::advance-returns-else-branch-clause-advances
backtracking::advance-returns-else-branch-clause-advances t c used m =
    let p = problem c.args.left.now c.args.right.now c.args.rights.now.before c.args.rights.now.all (map (λ b. b.now) c.args.candidates.now) in
    not_joined p (length c.args.choice.now.taken) c.args.tables.now used c.args.from
    (past_map plain_step (out-Expr c.args.left.now).steps c.len-count.result (length c.args.choice.now.taken) c.in-None.ensures.value c.len-count.ensures)
    (sym c.in_ok-joined_results-in-None.ensures.answer ∙ c.if-branch.false)

pub serving::served-returns-in-Some-at-clause-answer : goal.serving::served-returns-in-Some-at-clause-answer
serving::served-returns-in-Some-at-clause-answer t c = served_ok_by c.step_served.result _ _
    (served-step c.args.tables.now c.args.choice.now.used (plain_step c.args.left.now) c.args.rights.now.before c.args.right.now c.args.place c.in-Some.before.now c.in-Some-at.step.now (sym c.if-not-is_free.ensures) c.in-Some.ensures.value c.in-Some-at.ensures)
    c.step_served.ensures.answer

pub serving::served-returns-in-None-at-clause-answer : goal.serving::served-returns-in-None-at-clause-answer
serving::served-returns-in-None-at-clause-answer t c =
    served-no_step c.args.tables.now c.args.choice.now.used (plain_step c.args.left.now) c.args.rights.now.before c.args.right.now c.args.place (sym c.if-not-is_free.ensures) c.in-None-at.ensures

pub serving::served-returns-in-None-clause-answer : goal.serving::served-returns-in-None-clause-answer
serving::served-returns-in-None-clause-answer t c =
    served-no_run c.args.tables.now c.args.choice.now.used (plain_step c.args.left.now) c.args.rights.now.before (map plain_step c.args.right.now) c.args.place (sym c.if-not-is_free.ensures) c.in-None.ensures.value
