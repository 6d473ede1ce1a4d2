use Rattle.std.proofs.Common.{◌<◌, length, arith}
use Rattle.std.proofs.lemmas.Grind.{common_steps}
use Rattle.celf_constraints.proofs.Growing.{next_false}
use Rattle.celf_constraints.proofs.ways.none_held.Goals as goal

pub loop-place-preserved : goal.loop-place-preserved
loop-place-preserved c =
    let lt : c.loop-place._place-index < length c.args.from.now = omega arith in
    let next = next_false c.args.from.now c.loop-place._place-index lt in
    grind (arith, common_steps, next, c.loop-place.invariant)
