use Rattle.std.proofs.Common.{◌≡◌, ℕ, suc, ◌+◌, ◌-◌, ◌<◌, ◌≤◌, List, length, take, get_or, Err, ap, sym, subst, ◌∙◌, arith}
use Rattle.std.proofs.Math.Seq.{take-length}
use Rattle.std.proofs.lemmas.Result.{err_from_is_err_and}
use Rattle.use_contexts.specs.Marks.{marks}
use Rattle.use_contexts.specs.Rows.{Leftover}
use Rattle.clf_decision.specs.Outcome.{passed, at_part, and_then}
use Rattle.clf_decision.specs.Checking.{with_slack}
use Rattle.clf_kernel.specs.declared.refusal.Stop.{Stop}
use Rattle.clf_kernel.specs.declared.trail.Opened.{Opened}
use Rattle.clf_kernel.specs.Answers.{plain_left}
use Rattle.clf_kernel.specs.Stops.{Stops, Gives}
use Rattle.clf_kernel.specs.Trail.{closed_modes, closed_steps, opened_by, opened_width}
use Rattle.clf_kernel.proofs.Closings.{width_next, steps_more, steps_end}
use Rattle.clf_kernel.proofs.trail.close_steps.Goals as goal

module _ (os : List Opened) (at older : ℕ) (x : Opened) (l : 0 < at) (k : at ≤ length os) (e : x ≡ get_or os (at - 1) x) where
  there : at - 1 < length os
  there = omega (arith, l, k)

  one_fewer : suc (at - 1) ≡ at
  one_fewer = omega (arith, l)

  width_here : opened_width (opened_by (take at os)) ≡ length x.modes + opened_width (opened_by (take (at - 1) os))
  width_here = ap (λ j. opened_width (opened_by (take j os))) (sym one_fewer) ∙ width_next os (at - 1) older x there e

  more : (y z : Leftover) → and_then (at_part (at - 1) (closed_modes x.modes (opened_width (opened_by (take (at - 1) os)) + older) y)) (with_slack x.slack) ≡ passed z
      → closed_steps older (opened_by (take at os)) (passed y) ≡ closed_steps older (opened_by (take (at - 1) os)) (passed z)
  more y z p = ap (λ j. closed_steps older (opened_by (take j os)) (passed y)) (sym one_fewer) ∙ steps_more os (at - 1) older x there e y z p

  stop : (y : Leftover) (s : Stop) → Stops (and_then (at_part (at - 1) (closed_modes x.modes (opened_width (opened_by (take (at - 1) os)) + older) y)) (with_slack x.slack)) s
      → Stops (closed_steps older (opened_by (take at os)) (passed y)) s
  stop y s p = subst (λ j. Stops (closed_steps older (opened_by (take j os)) (passed y)) s) one_fewer (steps_end os (at - 1) older x there e y s p)

pub loop-place-init : goal.loop-place-init
loop-place-init c =
    let t = take-length c.args.opened.now in (
      omega arith,
      (λ n r. (r ∙ ap (λ os. opened_width (opened_by os) + n) (sym t), ap (λ os. closed_steps n (opened_by os) (passed (plain_left c.args.left))) (sym t))),
    )

pub loop-place-preserved : goal.loop-place-preserved
loop-place-preserved c =
    let i = c.loop-place.invariant in (
      omega (arith, i.0),
      (λ older r.
          let v = i.1 older r in
          let x = c.index-opened-place.result in
          let os = c.args.opened.now in
          let at = c.loop-place.place in
          let w = width_here os at older x c.loop-place-test.true i.0 c.index-opened-place.is in
          let n = opened_width (opened_by (take (at - 1) os)) + older in
          let m : length (marks c.loop-place.left.row) ≡ n + length x.modes = let a = v.0 in omega (arith, a, w) in (
            c.in_ok-left.ensures.marked n m,
            v.1 ∙ more os at older x c.loop-place-test.true i.0 c.index-opened-place.is (plain_left c.loop-place.left) (plain_left c.in_ok-left.left) (c.in_ok-left.ensures.outcome n m),
          )),
    )

pub returns-in_err-left-clause-outcome : goal.returns-in_err-left-clause-outcome
returns-in_err-left-clause-outcome c = λ older r.
    let i = c.loop-place.invariant in
    let v = i.1 older r in
    let x = c.index-opened-place.result in
    let os = c.args.opened.now in
    let at = c.loop-place.place in
    let w = width_here os at older x c.loop-place-test.true i.0 c.index-opened-place.is in
    let n = opened_width (opened_by (take (at - 1) os)) + older in
    let m : length (marks c.loop-place.left.row) ≡ n + length x.modes = let a = v.0 in omega (arith, a, w) in
    let p = err_from_is_err_and c.from_residual.result c.from_residual.ensures.1 in
    let e : c.from_residual.result ≡ Err c.in_err-left.field-0.0 = cc (p.1, p.2) in
    subst (λ q. Gives plain_left (closed_steps older (opened_by os) (passed (plain_left c.args.left))) q) (sym e)
    (subst (λ o. Stops o c.in_err-left.field-0.0) (sym v.1)
    (stop os at older x c.loop-place-test.true i.0 c.index-opened-place.is (plain_left c.loop-place.left) c.in_err-left.field-0.0 (c.in_err-left.ensures.outcome n m)))

pub returns-clause-outcome : goal.returns-clause-outcome
returns-clause-outcome c = λ older r.
    let v = c.loop-place.invariant.1 older r in
    let z : c.loop-place.place ≡ 0 = omega (arith, c.loop-place-test.false) in
    v.1 ∙ ap (λ j. closed_steps older (opened_by (take j c.args.opened.now)) (passed (plain_left c.loop-place.left))) z

pub returns-clause-marked : goal.returns-clause-marked
returns-clause-marked c = λ older r.
    let v = c.loop-place.invariant.1 older r in
    let z : c.loop-place.place ≡ 0 = omega (arith, c.loop-place-test.false) in
    let m = v.0 ∙ ap (λ j. opened_width (opened_by (take j c.args.opened.now)) + older) z in
    omega (arith, m)
