use Rattle.std.proofs.Common.{◌++◌}
use Rattle.celf_surface.specs.Surface.{surface, object_tree}
use Rattle.celf_sugar.specs.Faults.{start, redexes, type_redexes}
use Rattle.celf_sugar.proofs.EarliestLaws.{earliest-append}
use Rattle.celf_sugar.proofs.item_fault.equal_redex.Goals as goal

pub returns : goal.returns
returns c =
    let e = earliest-append start (redexes (object_tree c.args.left.now)) (redexes (object_tree c.args.right.now) ++ type_redexes (surface c.args.ty.now)) in
    let f = earliest-append start (redexes (object_tree c.args.right.now)) (type_redexes (surface c.args.ty.now)) in
    cc
