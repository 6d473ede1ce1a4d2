-- What has been found is the earliest of the front of the list.
use Rattle.std.proofs.Common.{◌≡◌, map, take}
use Rattle.std.specs.List.{flat_map}
use Rattle.celf_surface.specs.Surface.{object_tree}
use Rattle.celf_sugar.specs.Earliest.{earliest}
use Rattle.celf_sugar.specs.Faults.{start, redexes}
use Rattle.celf_sugar.proofs.redex.redex_in_indices.Given as goal

abbrev pub invariant-loop-index : goal.invariant-loop-index
invariant-loop-index l = l.found ≡ earliest start (flat_map redexes (map object_tree (take l.index-index l.indices)))
