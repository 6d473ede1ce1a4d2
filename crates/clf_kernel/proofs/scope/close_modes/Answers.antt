use Rattle.std.proofs.Common.{◌≡◌, ℕ, suc, ◌+◌, ◌-◌, ◌<◌, ◌≤◌, List, length, take, get_or, Err, ap, sym, subst, ◌∙◌, arith}
use Rattle.std.proofs.Math.Seq.{take-length}
use Rattle.std.proofs.lemmas.List.{get_or_default}
use Rattle.std.proofs.lemmas.Result.{err_from_is_err_and}
use Rattle.clf_syntax.specs.declared.tree.Mode.{Mode}
use Rattle.clf_syntax.specs.declared.tree.Mode.TheVariants.{Persistent}
use Rattle.use_contexts.specs.Marks.{marks}
use Rattle.use_contexts.specs.Rows.{Leftover}
use Rattle.clf_decision.specs.Outcome.{passed}
use Rattle.clf_kernel.specs.declared.refusal.Stop.{Stop}
use Rattle.clf_kernel.specs.Answers.{plain_left}
use Rattle.clf_kernel.specs.Stops.{Stops, Gives}
use Rattle.clf_kernel.specs.Trail.{closed_mode, closed_modes}
use Rattle.clf_kernel.proofs.Closings.{modes_more, modes_stop}
use Rattle.clf_kernel.proofs.RowSteps.{length_later}
use Rattle.clf_kernel.proofs.scope.close_modes.Goals as goal

module _ (ms : List Mode) (at older : ℕ) (l : 0 < at) (k : at ≤ length ms) where
  there : at - 1 < length ms
  there = omega (arith, l, k)

  one_fewer : suc (at - 1) ≡ at
  one_fewer = omega (arith, l)

  -- as many marks as the level of the newest variable
  module _ (marked : ℕ) (e : marked ≡ older + at) where
    level : marked ≡ suc (older + (at - 1))
    level = omega (arith, e, l)

    more : (a b : Leftover) → closed_mode (get_or ms (at - 1) Persistent) marked a ≡ passed b → closed_modes (take at ms) older a ≡ closed_modes (take (at - 1) ms) older b
    more a b p = ap (λ j. closed_modes (take j ms) older a) (sym one_fewer)
        ∙ modes_more ms (at - 1) older (get_or ms (at - 1) Persistent) there (get_or_default ms (at - 1) Persistent _ there) a b (ap (λ n. closed_mode (get_or ms (at - 1) Persistent) n a) (sym level) ∙ p)

    stop : (a : Leftover) (s : Stop) → Stops (closed_mode (get_or ms (at - 1) Persistent) marked a) s → Stops (closed_modes (take at ms) older a) s
    stop a s p = subst (λ j. Stops (closed_modes (take j ms) older a) s) one_fewer
        (modes_stop ms (at - 1) older (get_or ms (at - 1) Persistent) there (get_or_default ms (at - 1) Persistent _ there) a s (subst (λ n. Stops (closed_mode (get_or ms (at - 1) Persistent) n a) s) level p))

pub loop-at-init : goal.loop-at-init
loop-at-init c = (omega arith, λ n r. (r, ap (λ ms. closed_modes ms n (plain_left c.args.left)) (sym (take-length c.args.modes.now))))

pub loop-at-preserved : goal.loop-at-preserved
loop-at-preserved c =
    let i = c.loop-at.invariant in (
      omega (arith, i.0),
      (λ n r.
          let v = i.1 n r in
          let at = c.loop-at.at in
          let e = level c.args.modes.now at n c.loop-at-test.true i.0 (length (marks c.loop-at.left.row)) v.0 in (
            ap length c.in_ok-left.ensures.row ∙ length_later (marks c.loop-at.left.row) (n + (at - 1)) e,
            v.1 ∙ more c.args.modes.now at n c.loop-at-test.true i.0 (length (marks c.loop-at.left.row)) v.0 (plain_left c.loop-at.left) (plain_left c.in_ok-left.left) c.in_ok-left.ensures.outcome,
          )),
    )

pub returns-in_err-left-clause-outcome : goal.returns-in_err-left-clause-outcome
returns-in_err-left-clause-outcome c = λ n r.
    let i = c.loop-at.invariant in
    let v = i.1 n r in
    let p = err_from_is_err_and c.from_residual.result c.from_residual.ensures.1 in
    let e : c.from_residual.result ≡ Err c.in_err-left.field-0.0 = cc (p.1, p.2) in
    subst (λ q. Gives plain_left (closed_modes c.args.modes.now n (plain_left c.args.left)) q) (sym e)
    (subst (λ w. Stops w c.in_err-left.field-0.0) (sym v.1)
    (stop c.args.modes.now c.loop-at.at n c.loop-at-test.true i.0 (length (marks c.loop-at.left.row)) v.0 (plain_left c.loop-at.left) c.in_err-left.field-0.0 c.in_err-left.ensures.outcome))

pub returns-clause-outcome : goal.returns-clause-outcome
returns-clause-outcome c = λ n r.
    let v = c.loop-at.invariant.1 n r in
    let z : c.loop-at.at ≡ 0 = omega (arith, c.loop-at-test.false) in
    v.1 ∙ ap (λ j. closed_modes (take j c.args.modes.now) n (plain_left c.loop-at.left)) z

pub returns-clause-marked : goal.returns-clause-marked
returns-clause-marked c = λ n r. let v = (c.loop-at.invariant.1 n r).0 in omega (arith, v, c.loop-at-test.false)
