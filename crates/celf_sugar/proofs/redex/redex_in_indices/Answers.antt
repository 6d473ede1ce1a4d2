use Rattle.std.proofs.Common.{arith}
use Rattle.celf_surface.specs.Surface.{object_tree}
use Rattle.celf_sugar.specs.Faults.{start, redexes}
use Rattle.celf_sugar.proofs.EarliestLaws.{one_more}
use Rattle.celf_sugar.proofs.redex.redex_in_indices.Goals as goal

pub loop-index-preserved : goal.loop-index-preserved
loop-index-preserved c = let e = one_more start object_tree redexes c.args.indices.now c.loop-index.index-index c.index-item.result (omega arith) c.index-item.is in cc
