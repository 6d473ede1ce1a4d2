-- What has been made is that of the front of the list.
use Rattle.std.proofs.Common.{◌≡◌, map, take}
use Rattle.celf_surface.specs.Surface.{object_tree}
use Rattle.celf_sugar.specs.Plain.{desugared_object}
use Rattle.celf_sugar.specs.Sugar.{object}
use Rattle.celf_sugar.proofs.types.plain_objects.Given as goal

abbrev pub invariant-loop-obj : goal.invariant-loop-obj
invariant-loop-obj l = map desugared_object l.plain ≡ map object (map object_tree (take l.obj-index l.objs))
