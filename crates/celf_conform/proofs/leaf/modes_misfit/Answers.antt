use Rattle.std.proofs.Common.{arith}
use Rattle.std.proofs.lemmas.Grind.{common_steps}
use Rattle.clf_syntax.specs.declared.tree.Mode.TheVariants.{Persistent}
use Rattle.celf_conform.proofs.Modes.{modes_more}
use Rattle.celf_conform.proofs.leaf.modes_misfit.Goals as goal

pub returns-in-Some : goal.returns-in-Some
returns-in-Some c =
    let m = modes_more c.args.entries.now c.args.modes.now c.loop-place.place c.index-entries-place.result Persistent (grind (arith, c)) (grind (arith, c)) c.index-entries-place.is in
    grind (arith, common_steps, m, c.mode_misfit.ensures, c.loop-place.invariant, c)

pub loop-place-preserved : goal.loop-place-preserved
loop-place-preserved c =
    let m = modes_more c.args.entries.now c.args.modes.now c.loop-place.place c.index-entries-place.result Persistent (grind (arith, c)) (grind (arith, c)) c.index-entries-place.is in
    grind (arith, common_steps, m, c.mode_misfit.ensures, c.loop-place.invariant, c)
