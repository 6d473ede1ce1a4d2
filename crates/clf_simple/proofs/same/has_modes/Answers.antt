use Rattle.std.proofs.Common.{◌≡◌, ◌&&◌, ◌+◌, ◌∙◌, true, false, arith, sym, ap, map, drop}
use Rattle.clf_syntax.specs.PlainSimple.{plain_simple_entry, simple_telescope_of}
use Rattle.clf_simple.specs.Decision.{has_modes}
use Rattle.clf_simple.proofs.Lists.{modes_differ, mode_step}
use Rattle.clf_simple.proofs.same.has_modes.Goals as goal

pub returns-then-entries-modes : goal.returns-then-entries-modes
returns-then-entries-modes c = sym (modes_differ c.args.entries.now c.args.modes.now (λ e. grind (arith, c.if-entries-modes.true)))

pub returns-then-not-has_mode : goal.returns-then-not-has_mode
returns-then-not-has_mode c =
    let p = c.loop-place.place in
    let f : c.has_mode.result ≡ false = grind (arith, c.if-not-has_mode.true) in
    sym (mode_step c.args.entries.now c.args.modes.now p c.index-entries-place.result _ (omega (arith, c.loop-place-test.true)) c.index-entries-place.is c.loop-place.invariant.0 c.has_mode.ensures
    ∙ ap (λ x. x && has_modes (simple_telescope_of (map plain_simple_entry (drop (p + 1) c.args.entries.now))) (drop (p + 1) c.args.modes.now)) f) ∙ c.loop-place.invariant.1

pub loop-place-preserved : goal.loop-place-preserved
loop-place-preserved c =
    let p = c.loop-place.place in
    let f : c.has_mode.result ≡ true = grind (arith, c.if-not-has_mode.false) in (
      c.loop-place.invariant.0,
      sym (mode_step c.args.entries.now c.args.modes.now p c.index-entries-place.result _ (omega (arith, c.loop-place-test.true)) c.index-entries-place.is c.loop-place.invariant.0 c.has_mode.ensures
          ∙ ap (λ x. x && has_modes (simple_telescope_of (map plain_simple_entry (drop (p + 1) c.args.entries.now))) (drop (p + 1) c.args.modes.now)) f) ∙ c.loop-place.invariant.1,
    )
