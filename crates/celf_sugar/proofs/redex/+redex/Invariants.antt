-- What has been found is the earliest of the front of the list.
use Rattle.std.proofs.Common.{◌≡◌, map, take}
use Rattle.std.specs.List.{flat_map}
use Rattle.celf_surface.specs.Surface.{argument_tree, step_tree, tuple_tree}
use Rattle.celf_sugar.specs.Earliest.{earliest}
use Rattle.celf_sugar.specs.Faults.{start, tuple_redexes}
use Rattle.celf_sugar.specs.FaultLists.{of_argument, of_step}
use Rattle.celf_sugar.proofs.redex.+redex.Given as goal

abbrev pub invariant-redex_in_arguments-loop-arg : goal.invariant-redex_in_arguments-loop-arg
invariant-redex_in_arguments-loop-arg l = l.found ≡ earliest start (flat_map of_argument (map argument_tree (take l.arg-index l.args)))

abbrev pub invariant-redex_in_steps-loop-step : goal.invariant-redex_in_steps-loop-step
invariant-redex_in_steps-loop-step l = l.found ≡ earliest start (flat_map of_step (map step_tree (take l.step-index l.steps)))

abbrev pub invariant-redex_in_tuples-loop-tuple : goal.invariant-redex_in_tuples-loop-tuple
invariant-redex_in_tuples-loop-tuple l = l.found ≡ earliest start (flat_map tuple_redexes (map tuple_tree (take l.tuple-index l.tuples)))
