use Rattle.std.proofs.Common.{◌<◌, ◌+◌, ◌++◌, [], ◌∷◌, map, length, drop, ap, sym, ◌∙◌, append_assoc, arith}
use Rattle.clf_syntax.specs.PlainSimple.{plain_simple_entry, simple_telescope_of}
use Rattle.clf_syntax.specs.Simple.{simple_modes}
use Rattle.clf_simple.proofs.Lists.{from_entry}
use Rattle.clf_simple.proofs.expansion.modes_of.Goals as goal

pub loop-entry-preserved : goal.loop-entry-preserved
loop-entry-preserved c =
    let i = c.loop-entry.entry-index in
    let es = c.args.entries.now in
    let e = c.entry-item.result in
    let lt : i < length es = omega arith in
    let rest = simple_modes (simple_telescope_of (map plain_simple_entry (drop (i + 1) es))) in
    ap (λ ms. ms ++ rest) c.in_ok-push.ensures.ok
    ∙ append_assoc c.loop-entry.modes (e.mode ∷ []) rest
    ∙ ap (λ t. c.loop-entry.modes ++ simple_modes t) (sym (from_entry es i e lt c.entry-item.is))
    ∙ c.loop-entry.invariant
