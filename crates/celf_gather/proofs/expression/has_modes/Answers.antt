use Rattle.std.proofs.Common.{◌≡◌, ◌&&◌, ◌+◌, ◌∙◌, true, false, arith, sym, ap, map, drop}
use Rattle.clf_syntax.specs.PlainTypes.{plain_tele_entry}
use Rattle.clf_syntax.specs.TypeTree.{telescope_of}
use Rattle.celf_gather.specs.Gathered.{modes_fit}
use Rattle.celf_gather.proofs.Lists.{modes_differ, mode_step, none_differ}
use Rattle.celf_gather.proofs.expression.has_modes.Goals as goal

pub returns-then-entries-modes : goal.returns-then-entries-modes
returns-then-entries-modes c = sym (modes_differ c.args.entries.now c.args.modes.now (λ e. grind (arith, c.if-entries-modes.true)))

pub returns-then-not-has_mode : goal.returns-then-not-has_mode
returns-then-not-has_mode c =
    let p = c.loop-place.place in
    let f : c.has_mode.result ≡ false = grind (arith, c.if-not-has_mode.true) in
    sym (mode_step c.args.entries.now c.args.modes.now p c.index-entries-place.result _ (omega (arith, c.loop-place-test.true)) c.index-entries-place.is c.loop-place.invariant.0 c.has_mode.ensures
    ∙ ap (λ x. x && modes_fit (telescope_of (map plain_tele_entry (drop (p + 1) c.args.entries.now))) (drop (p + 1) c.args.modes.now)) f) ∙ c.loop-place.invariant.1

pub loop-place-preserved : goal.loop-place-preserved
loop-place-preserved c =
    let p = c.loop-place.place in
    let f : c.has_mode.result ≡ true = grind (arith, c.if-not-has_mode.false) in (
      c.loop-place.invariant.0,
      sym (mode_step c.args.entries.now c.args.modes.now p c.index-entries-place.result _ (omega (arith, c.loop-place-test.true)) c.index-entries-place.is c.loop-place.invariant.0 c.has_mode.ensures
          ∙ ap (λ x. x && modes_fit (telescope_of (map plain_tele_entry (drop (p + 1) c.args.entries.now))) (drop (p + 1) c.args.modes.now)) f) ∙ c.loop-place.invariant.1,
    )

pub returns : goal.returns
returns c =
    let p = c.loop-place.place in
    none_differ c.args.entries.now c.args.modes.now p (omega (arith, c.loop-place-test.false)) c.loop-place.invariant.0 ∙ c.loop-place.invariant.1
