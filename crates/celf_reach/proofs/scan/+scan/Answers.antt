use Rattle.std.specs.Prelude.{◌+◌, ◌<◌, length, map}
use Rattle.std.proofs.Common.{ap, sym, subst, ◌∙◌, arith, ⊎_elim, drop}
use Rattle.std.proofs.Math.ListN.{drop_of_length-le}
use Rattle.std.proofs.lemmas.Result.{IfErr-weaker, IfOk-weaker}
use Rattle.clf_syntax.specs.Plain.{plain_obj, plain_neutral, plain_elim, plain_expr, plain-Lam, plain-Pair, plain-Mon, plain-At, plain-Arg, plain-First, plain-Second, plain-neutral}
use Rattle.clf_syntax.specs.PlainSimple.{plain_simple}
use Rattle.clf_syntax.specs.Tree.{lam, pair, monadic, atomic, head_alone, app, fst, snd, eliminated, spine_on}
use Rattle.clf_syntax.proofs.Next.{dropped}
use Rattle.clf_simple.specs.Scope.{scope}
use Rattle.clf_simple.proofs.Lists.{neutral_head}
use Rattle.hered_subst.specs.TypedEnvironments.{is_metavariable}
use Rattle.reach_walk.specs.Walked.{both}
use Rattle.celf_reach.specs.Scanned.{plain_found, Finds, FindsBelow, SoFar}
use Rattle.celf_reach.specs.Sought.{plain_parts}
use Rattle.celf_reach.proofs.Situations.{finds_as, so_far_as, finds_loose, finds_no_lam, finds_lam, finds_no_pair, finds_pair, finds_monadic, finds_rigid, finds_untyped, so_far_fst, so_far_snd, so_far_app, so_far_no_app, Along, along_more, along_end}
use Rattle.celf_reach.specs.Passed.{PassesIn, PassesBelow}
use Rattle.celf_reach.proofs.Passing.{carried, passes_lam, passes_left, passes_right, passes_rigid, passes_app, passes_along}
use Rattle.celf_reach.proofs.scan.+scan.Goals as goal

pub scan-returns-in-Lam-clause-found : goal.scan-returns-in-Lam-clause-found
scan-returns-in-Lam-clause-found t c = IfOk-weaker c.scan_lambda.result _ _
    (λ f h. subst (λ x. Finds c.args.sought.now c.args.types.now x (plain_simple c.args.ty.now) (plain_found f))
    (ap (λ b. lam c.in-Lam.mode (plain_obj b)) c.get.ensures ∙ sym (ap plain_obj c.in-Lam.is ∙ plain-Lam c.in-Lam.mode c.in-Lam.body)) h) c.scan_lambda.ensures.found

pub scan-returns-in-None-clause-found : goal.scan-returns-in-None-clause-found
scan-returns-in-None-clause-found t c = subst (λ x. Finds c.args.sought.now c.args.types.now x (plain_simple c.args.ty.now) (plain_found c.nothing.result))
    (sym (ap plain_obj c.in-Pair.is ∙ plain-Pair c.in-Pair.left c.in-Pair.right))
    (finds_no_pair c.args.sought.now c.args.types.now (plain_obj c.in-Pair.left) (plain_obj c.in-Pair.right) (plain_simple c.args.ty.now) (plain_found c.nothing.result) c.in-None.ensures)

pub scan-returns-in_ok-other-in-Some-clause-found : goal.scan-returns-in_ok-other-in-Some-clause-found
scan-returns-in_ok-other-in-Some-clause-found t c =
    finds_as c.args.sought.now c.args.types.now (pair (plain_obj c.in-Pair.left) (plain_obj c.in-Pair.right)) (plain_obj c.args.obj.now) (plain_simple c.args.ty.now)
    (both (plain_found c.in_ok-found-in-Some.found) (plain_found c.in_ok-other-in-Some.other)) (plain_found c.both.result)
    (sym (ap plain_obj c.in-Pair.is ∙ plain-Pair c.in-Pair.left c.in-Pair.right)) (sym c.both.ensures)
    (finds_pair c.args.sought.now c.args.types.now (plain_obj c.in-Pair.left) (plain_obj c.in-Pair.right) (plain_simple c.args.ty.now) (plain_parts c.in-Some.parts)
    (plain_found c.in_ok-found-in-Some.found) (plain_found c.in_ok-other-in-Some.other) c.in-Some.ensures
    (subst (λ o. Finds c.args.sought.now c.args.types.now (plain_obj o) (plain_simple c.in-Some.parts.first.now) (plain_found c.in_ok-found-in-Some.found)) c.get-in-Some.ensures c.in_ok-found-in-Some.ensures.found)
    (subst (λ o. Finds c.args.sought.now c.args.types.now (plain_obj o) (plain_simple c.in-Some.parts.second.now) (plain_found c.in_ok-other-in-Some.other)) c.get-in-Some-2.ensures c.in_ok-other-in-Some.ensures.found))

pub scan-returns-in_ok-loose-in-Mon-clause-found : goal.scan-returns-in_ok-loose-in-Mon-clause-found
scan-returns-in_ok-loose-in-Mon-clause-found t c =
    finds_loose c.args.sought.now c.args.types.now (plain_obj c.args.obj.now) (monadic (plain_expr c.in-Mon.expr)) (plain_simple c.args.ty.now) (plain_found c.in_ok-loose-in-Mon.field-0)
    (ap plain_obj c.in-Mon.is ∙ plain-Mon c.in-Mon.expr) c.in_ok-loose-in-Mon.ensures (finds_monadic c.args.sought.now c.args.types.now (plain_expr c.in-Mon.expr) (plain_simple c.args.ty.now))

pub scan-returns-in-Meta-clause-found : goal.scan-returns-in-Meta-clause-found
scan-returns-in-Meta-clause-found t c = IfOk-weaker c.scan_flexible.result _ _
    (λ f h. h (plain_simple c.args.ty.now) (ap plain_obj c.in-At.is ∙ plain-At c.in-At.neutral) (ap is_metavariable c.in-Meta.is)) c.scan_flexible.ensures.found

pub scan-returns-in-Const-clause-found : goal.scan-returns-in-Const-clause-found
scan-returns-in-Const-clause-found t c = IfOk-weaker c.scan_rigid.result _ _
    (λ f h. subst (λ x. Finds c.args.sought.now c.args.types.now x (plain_simple c.args.ty.now) (plain_found f)) (sym (ap plain_obj c.in-At.is ∙ plain-At c.in-At.neutral))
    (h (plain_simple c.args.ty.now) (⊎_elim (λ k. ap is_metavariable k.1) (λ k. ap is_metavariable k.1) c.in-Const.is))) c.scan_rigid.ensures.found

pub scan_argument-returns-in-None-clause-found : goal.scan_argument-returns-in-None-clause-found
scan_argument-returns-in-None-clause-found t c k n w = so_far_no_app c.args.sought.now c.args.types.now n (plain_simple c.args.walking.ty.now) (plain_found c.args.walking.found) k (plain_obj c.args.obj.now)
    (plain_simple c.args.walking.ty.now) (plain_found c.args.walking.found) w c.in-None.ensures

pub scan_argument-returns-in_ok-other-in-Some-clause-found : goal.scan_argument-returns-in_ok-other-in-Some-clause-found
scan_argument-returns-in_ok-other-in-Some-clause-found t c k n w =
    subst (SoFar c.args.sought.now c.args.types.now (app k n (plain_obj c.args.obj.now)) (plain_simple c.in-Some.parts.second.now)) (sym c.both.ensures)
    (so_far_app c.args.sought.now c.args.types.now n (plain_simple c.args.walking.ty.now) (plain_found c.args.walking.found) k (plain_obj c.args.obj.now)
    (plain_parts c.in-Some.parts) (plain_found c.in_ok-other-in-Some.other) w c.in-Some.ensures c.in_ok-other-in-Some.ensures.found)

pub scan_elimination-returns-in-Arg-clause-found : goal.scan_elimination-returns-in-Arg-clause-found
scan_elimination-returns-in-Arg-clause-found t c = IfOk-weaker c.scan_argument.result _ _
    (λ w h n k. subst (λ r. SoFar c.args.sought.now c.args.types.now r (plain_simple w.ty.now) (plain_found w.found))
    (sym (ap (λ e. eliminated (plain_elim e) n) c.in-Arg.is ∙ ap (λ e. eliminated e n) (plain-Arg c.in-Arg.mode c.in-Arg.obj))) (h c.in-Arg.mode n k)) c.scan_argument.ensures.found

pub scan_elimination-returns-in-First-clause-found : goal.scan_elimination-returns-in-First-clause-found
scan_elimination-returns-in-First-clause-found t c n w =
    so_far_as c.args.sought.now c.args.types.now (fst n) (eliminated (plain_elim c.args.act.now) n) (plain_simple c.first_part.result.ty.now) (plain_found c.args.walking.found) (plain_found c.first_part.result.found)
    (sym (ap (λ e. eliminated (plain_elim e) n) c.in-First.is ∙ ap (λ e. eliminated e n) plain-First)) (sym c.first_part.ensures.same)
    (so_far_fst c.args.sought.now c.args.types.now n (plain_simple c.args.walking.ty.now) (plain_found c.args.walking.found) (plain_simple c.first_part.result.ty.now) w c.first_part.ensures.part)

pub scan_elimination-returns-in-Second-clause-found : goal.scan_elimination-returns-in-Second-clause-found
scan_elimination-returns-in-Second-clause-found t c n w =
    so_far_as c.args.sought.now c.args.types.now (snd n) (eliminated (plain_elim c.args.act.now) n) (plain_simple c.second_part.result.ty.now) (plain_found c.args.walking.found) (plain_found c.second_part.result.found)
    (sym (ap (λ e. eliminated (plain_elim e) n) c.in-Second.is ∙ ap (λ e. eliminated e n) plain-Second)) (sym c.second_part.ensures.same)
    (so_far_snd c.args.sought.now c.args.types.now n (plain_simple c.args.walking.ty.now) (plain_found c.args.walking.found) (plain_simple c.second_part.result.ty.now) w c.second_part.ensures.part)

pub scan_lambda-returns-in-None-clause-found : goal.scan_lambda-returns-in-None-clause-found
scan_lambda-returns-in-None-clause-found t c = finds_no_lam c.args.sought.now c.args.types.now c.args.mode (plain_obj c.args.body.now) (plain_simple c.args.ty.now) (plain_found c.nothing.result) c.in-None.ensures

pub scan_lambda-returns-in_ok-inner-in-Some-clause-found : goal.scan_lambda-returns-in_ok-inner-in-Some-clause-found
scan_lambda-returns-in_ok-inner-in-Some-clause-found t c = IfOk-weaker c.scan.result _ _
    (λ f h. finds_lam c.args.sought.now c.args.types.now c.as_slice.result.now c.args.mode (plain_obj c.args.body.now) (plain_simple c.args.ty.now) (plain_parts c.in-Some.parts) (plain_found f) c.in-Some.ensures
    (ap scope c.as_slice.ensures.value ∙ c.in_ok-inner-in-Some.ensures) h) c.scan.ensures.found

pub scan_rigid-returns-in-None-clause-found : goal.scan_rigid-returns-in-None-clause-found
scan_rigid-returns-in-None-clause-found t c u e = subst (λ n. Finds c.args.sought.now c.args.types.now (atomic n) u (plain_found c.nothing.result)) (sym (plain-neutral c.args.neutral.now))
    (finds_untyped c.args.sought.now c.args.types.now c.args.neutral.now.head (map plain_elim c.args.neutral.now.spine) u (plain_found c.nothing.result) e c.in-None.ensures)

pub scan_rigid-returns-in-Some-clause-found : goal.scan_rigid-returns-in-Some-clause-found
scan_rigid-returns-in-Some-clause-found t c = IfOk-weaker c.scan_spine.result _ _
    (λ f h u e. finds_rigid c.args.sought.now c.args.types.now (plain_neutral c.args.neutral.now) u (plain_found f) (ap is_metavariable (neutral_head c.args.neutral.now) ∙ e)
    (subst (λ n. FindsBelow c.args.sought.now c.args.types.now n (plain_found f))
    (ap (λ es. spine_on (map plain_elim es) (head_alone c.args.neutral.now.head)) c.as_slice.ensures ∙ sym (plain-neutral c.args.neutral.now))
    (h (head_alone c.args.neutral.now.head) (c.scan_head-start.ensures e c.in-Some.ensures)))) c.scan_spine.ensures.found

pub scan_spine-loop-act-preserved : goal.scan_spine-loop-act-preserved
scan_spine-loop-act-preserved t c n w =
    let lt : c.loop-act.act-index < length c.args.spine.now = omega arith in
    along_more c.args.sought.now c.args.types.now (map plain_elim c.args.spine.now) n (plain_elim c.act-item.result) (map plain_elim (drop (c.loop-act.act-index + 1) c.args.spine.now))
    (plain_simple c.loop-act.walking.ty.now) (plain_simple c.in_ok-walking.walking.ty.now) (plain_found c.loop-act.walking.found) (plain_found c.in_ok-walking.walking.found)
    (subst (λ l. Along c.args.sought.now c.args.types.now (map plain_elim c.args.spine.now) n l (plain_simple c.loop-act.walking.ty.now) (plain_found c.loop-act.walking.found))
    (ap (map plain_elim) (dropped c.args.spine.now c.loop-act.act-index c.act-item.result lt c.act-item.is)) (c.loop-act.invariant n w)) c.in_ok-walking.ensures.found

pub scan_spine-returns-clause-found : goal.scan_spine-returns-clause-found
scan_spine-returns-clause-found t c n w =
    along_end c.args.sought.now c.args.types.now (map plain_elim c.args.spine.now) n (map plain_elim (drop c.loop-act.act-index c.args.spine.now)) (plain_simple c.loop-act.walking.ty.now) (plain_found c.loop-act.walking.found)
    (ap (map plain_elim) (drop_of_length-le c.args.spine.now (omega arith))) (c.loop-act.invariant n w)

-- ---- numbers that go too far

pub scan-returns-in_err-found-in-Some-clause-too_far : goal.scan-returns-in_err-found-in-Some-clause-too_far
scan-returns-in_err-found-in-Some-clause-too_far t c = carried c.from_residual.result c.in_err-found-in-Some.field-0.0 _ c.from_residual.ensures.1
    (subst (λ x. PassesIn c.args.sought.now c.args.types.now x (plain_simple c.args.ty.now) c.in_err-found-in-Some.field-0.0) (sym (ap plain_obj c.in-Pair.is ∙ plain-Pair c.in-Pair.left c.in-Pair.right))
    (passes_left c.args.sought.now c.args.types.now (plain_obj c.in-Pair.left) (plain_obj c.in-Pair.right) (plain_simple c.args.ty.now) (plain_parts c.in-Some.parts) c.in_err-found-in-Some.field-0.0 c.in-Some.ensures
    (subst (λ o. PassesIn c.args.sought.now c.args.types.now (plain_obj o) (plain_simple c.in-Some.parts.first.now) c.in_err-found-in-Some.field-0.0) c.get-in-Some.ensures c.in_err-found-in-Some.ensures.too_far)))

pub scan-returns-in_err-other-in-Some-clause-too_far : goal.scan-returns-in_err-other-in-Some-clause-too_far
scan-returns-in_err-other-in-Some-clause-too_far t c = carried c.from_residual-in_err-other-in-Some.result c.in_err-other-in-Some.field-0.0 _ c.from_residual-in_err-other-in-Some.ensures.1
    (subst (λ x. PassesIn c.args.sought.now c.args.types.now x (plain_simple c.args.ty.now) c.in_err-other-in-Some.field-0.0) (sym (ap plain_obj c.in-Pair.is ∙ plain-Pair c.in-Pair.left c.in-Pair.right))
    (passes_right c.args.sought.now c.args.types.now (plain_obj c.in-Pair.left) (plain_obj c.in-Pair.right) (plain_simple c.args.ty.now) (plain_parts c.in-Some.parts) c.in_err-other-in-Some.field-0.0 c.in-Some.ensures
    (subst (λ o. PassesIn c.args.sought.now c.args.types.now (plain_obj o) (plain_simple c.in-Some.parts.second.now) c.in_err-other-in-Some.field-0.0) c.get-in-Some-2.ensures c.in_err-other-in-Some.ensures.too_far)))

pub scan-returns-in-Lam-clause-too_far : goal.scan-returns-in-Lam-clause-too_far
scan-returns-in-Lam-clause-too_far t c = IfErr-weaker c.scan_lambda.result _ _
    (λ e h. subst (λ x. PassesIn c.args.sought.now c.args.types.now x (plain_simple c.args.ty.now) e)
    (ap (λ b. lam c.in-Lam.mode (plain_obj b)) c.get.ensures ∙ sym (ap plain_obj c.in-Lam.is ∙ plain-Lam c.in-Lam.mode c.in-Lam.body)) h) c.scan_lambda.ensures.too_far

pub scan-returns-in-Const-clause-too_far : goal.scan-returns-in-Const-clause-too_far
scan-returns-in-Const-clause-too_far t c = IfErr-weaker c.scan_rigid.result _ _
    (λ e h. subst (λ x. PassesIn c.args.sought.now c.args.types.now x (plain_simple c.args.ty.now) e) (sym (ap plain_obj c.in-At.is ∙ plain-At c.in-At.neutral))
    (h (plain_simple c.args.ty.now) (⊎_elim (λ k. ap is_metavariable k.1) (λ k. ap is_metavariable k.1) c.in-Const.is))) c.scan_rigid.ensures.too_far

pub scan-returns-in-Meta-clause-too_far : goal.scan-returns-in-Meta-clause-too_far
scan-returns-in-Meta-clause-too_far t c = IfErr-weaker c.scan_flexible.result _ _
    (λ e h. h (plain_simple c.args.ty.now) (ap plain_obj c.in-At.is ∙ plain-At c.in-At.neutral) (ap is_metavariable c.in-Meta.is)) c.scan_flexible.ensures.too_far

pub scan_argument-returns-in_err-other-in-Some-clause-too_far : goal.scan_argument-returns-in_err-other-in-Some-clause-too_far
scan_argument-returns-in_err-other-in-Some-clause-too_far t c = carried c.from_residual.result c.in_err-other-in-Some.field-0.0 _ c.from_residual.ensures.1
    (λ k n w. passes_app c.args.sought.now c.args.types.now n (plain_simple c.args.walking.ty.now) (plain_found c.args.walking.found) k (plain_obj c.args.obj.now) (plain_parts c.in-Some.parts) c.in_err-other-in-Some.field-0.0
    c.in-Some.ensures c.in_err-other-in-Some.ensures.too_far w)

pub scan_elimination-returns-in-Arg-clause-too_far : goal.scan_elimination-returns-in-Arg-clause-too_far
scan_elimination-returns-in-Arg-clause-too_far t c = IfErr-weaker c.scan_argument.result _ _
    (λ e h n k. subst (λ r. PassesBelow c.args.sought.now c.args.types.now r e)
    (sym (ap (λ a. eliminated (plain_elim a) n) c.in-Arg.is ∙ ap (λ a. eliminated a n) (plain-Arg c.in-Arg.mode c.in-Arg.obj))) (h c.in-Arg.mode n k)) c.scan_argument.ensures.too_far

pub scan_lambda-returns-in_ok-inner-in-Some-clause-too_far : goal.scan_lambda-returns-in_ok-inner-in-Some-clause-too_far
scan_lambda-returns-in_ok-inner-in-Some-clause-too_far t c = IfErr-weaker c.scan.result _ _
    (λ e h. passes_lam c.args.sought.now c.args.types.now c.as_slice.result.now c.args.mode (plain_obj c.args.body.now) (plain_simple c.args.ty.now) (plain_parts c.in-Some.parts) e c.in-Some.ensures
    (ap scope c.as_slice.ensures.value ∙ c.in_ok-inner-in-Some.ensures) h) c.scan.ensures.too_far

pub scan_rigid-returns-in-Some-clause-too_far : goal.scan_rigid-returns-in-Some-clause-too_far
scan_rigid-returns-in-Some-clause-too_far t c = IfErr-weaker c.scan_spine.result _ _
    (λ e h u k. passes_rigid c.args.sought.now c.args.types.now (plain_neutral c.args.neutral.now) u e (ap is_metavariable (neutral_head c.args.neutral.now) ∙ k)
    (subst (λ n. PassesBelow c.args.sought.now c.args.types.now n e)
    (ap (λ es. spine_on (map plain_elim es) (head_alone c.args.neutral.now.head)) c.as_slice.ensures ∙ sym (plain-neutral c.args.neutral.now))
    (h (head_alone c.args.neutral.now.head) (c.scan_head-start.ensures k c.in-Some.ensures)))) c.scan_spine.ensures.too_far

pub scan_spine-returns-in_err-walking-clause-too_far : goal.scan_spine-returns-in_err-walking-clause-too_far
scan_spine-returns-in_err-walking-clause-too_far t c = carried c.from_residual.result c.in_err-walking.field-0.0 _ c.from_residual.ensures.1 (λ n w.
    let lt : c.loop-act.act-index < length c.args.spine.now = omega arith in
    passes_along c.args.sought.now c.args.types.now (map plain_elim c.args.spine.now) n (plain_elim c.act-item.result) (map plain_elim (drop (c.loop-act.act-index + 1) c.args.spine.now))
    (plain_simple c.loop-act.walking.ty.now) (plain_found c.loop-act.walking.found) c.in_err-walking.field-0.0
    (subst (λ l. Along c.args.sought.now c.args.types.now (map plain_elim c.args.spine.now) n l (plain_simple c.loop-act.walking.ty.now) (plain_found c.loop-act.walking.found))
    (ap (map plain_elim) (dropped c.args.spine.now c.loop-act.act-index c.act-item.result lt c.act-item.is)) (c.loop-act.invariant n w)) c.in_err-walking.ensures.too_far)
