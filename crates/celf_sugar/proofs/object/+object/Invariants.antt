-- What has been made is that of the front of the list.
use Rattle.std.proofs.Common.{◌≡◌, map, take}
use Rattle.std.specs.List.{flat_map}
use Rattle.celf_surface.specs.Surface.{argument_tree, step_tree, tuple_tree}
use Rattle.celf_sugar.specs.Plain.{desugared_elim, desugared_step, desugared_marked}
use Rattle.celf_sugar.specs.Sugar.{entries_of_tuple}
use Rattle.celf_sugar.specs.SugarLists.{act_of, plain_step_of}
use Rattle.celf_sugar.proofs.object.+object.Given as goal

abbrev pub invariant-arguments-loop-arg : goal.invariant-arguments-loop-arg
invariant-arguments-loop-arg l = map desugared_elim l.elims ≡ map act_of (map argument_tree (take l.arg-index l.args))

abbrev pub invariant-steps-loop-written : goal.invariant-steps-loop-written
invariant-steps-loop-written l = map desugared_step l.plain ≡ map plain_step_of (map step_tree (take l.written-index l.steps))

abbrev pub invariant-tuples-loop-part : goal.invariant-tuples-loop-part
invariant-tuples-loop-part l = map desugared_marked l.entries ≡ flat_map entries_of_tuple (map tuple_tree (take l.part-index l.tuples))
