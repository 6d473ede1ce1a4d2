use Rattle.std.proofs.Common.{None, refl, ◌∙◌}
use Rattle.celf_surface.specs.Surface.{surface, object_tree, equal}
use Rattle.celf_sugar.proofs.AnswerLaws.{faults-first}
use Rattle.celf_sugar.proofs.item_fault.equal_fault.Goals as goal

pub returns : goal.returns
returns c = c.first.ensures ∙ faults-first (equal (object_tree c.args.left.now) (object_tree c.args.right.now) (surface c.args.ty.now)) (record { kind_place = c.kind_place.result; not_async = c.not_async.result; redex = c.equal_redex.result; out_of_range = None; bad_implicit = None }) c.kind_place.ensures c.not_async.ensures c.equal_redex.ensures refl refl
