use Rattle.std.proofs.Common.{◌∙◌, [], length, sym, ap, subst, arith}
use Rattle.clf_rules.specs.Refusal.{width}
use Rattle.clf_decision.specs.Outcome.{refused}
use Rattle.clf_kernel.specs.Stops.{Stops}
use Rattle.clf_kernel.proofs.Stops.{refusal_stops}
use Rattle.clf_kernel.proofs.Patterns.{pattern_agrees, pattern_differs, pattern_passes, pattern_of_other_width}
use Rattle.clf_kernel.proofs.pattern.same_pattern.Goals as goal

pub loop-at-preserved : goal.loop-at-preserved
loop-at-preserved c = (
  omega (arith, c.loop-at-test.true),
  pattern_agrees c.args.modes.now c.args.tele.now c.as_slice-entries.result.now c.as_slice-entries.ensures c.if-modes-entries.false c.loop-at.at c.loop-at.invariant.1 c.index-entries-at.result c.loop-at-test.true (sym c.if-not-is_same_mode.ensures),
)

pub returns : goal.returns
returns c = pattern_passes c.args.modes.now c.args.tele.now c.as_slice-entries.result.now c.as_slice-entries.ensures c.if-modes-entries.false c.loop-at.at c.loop-at.invariant.1 c.loop-at-test.false

pub returns-then-modes-entries : goal.returns-then-modes-entries
returns-then-modes-entries c =
    let n = ap length c.as_slice-entries.ensures in
    let q = pattern_of_other_width c.args.modes.now c.args.tele.now (λ e. c.if-modes-entries.true (e ∙ sym n)) in
    let w = c.in_ok-wanted.ensures.count ∙ n in
    let k = ap (λ a. refused [] (width a (length c.args.modes.now))) (sym w) ∙ ap (λ b. refused [] (width c.in_ok-wanted.wanted b)) (sym c.in_ok-found.ensures.count) in
    subst (λ o. Stops o c.refuse.result) (sym (q ∙ k)) (refusal_stops _ [] (width c.in_ok-wanted.wanted c.in_ok-found.found) c.refuse.result c.refuse.ensures)

pub returns-then-not-is_same_mode : goal.returns-then-not-is_same_mode
returns-then-not-is_same_mode c =
    subst (λ o. Stops o c.refuse-then-not-is_same_mode.result)
    (sym (pattern_differs c.args.modes.now c.args.tele.now c.as_slice-entries.result.now c.as_slice-entries.ensures c.if-modes-entries.false c.loop-at.at c.loop-at.invariant.1 c.index-entries-at.result c.loop-at-test.true (sym c.if-not-is_same_mode.ensures)))
    (refusal_stops _ [] _ c.refuse-then-not-is_same_mode.result c.refuse-then-not-is_same_mode.ensures)
