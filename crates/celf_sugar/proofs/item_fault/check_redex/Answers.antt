use Rattle.celf_surface.specs.Surface.{surface, object_tree}
use Rattle.celf_sugar.specs.Faults.{start, redexes, type_redexes}
use Rattle.celf_sugar.proofs.EarliestLaws.{earliest-append}
use Rattle.celf_sugar.proofs.item_fault.check_redex.Goals as goal

pub returns : goal.returns
returns c = let e = earliest-append start (redexes (object_tree c.args.obj.now)) (type_redexes (surface c.args.ty.now)) in cc
