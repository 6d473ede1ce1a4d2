-- What has been made is that of the front of the list.
use Rattle.std.proofs.Common.{◌≡◌, map, take}
use Rattle.std.specs.List.{flat_map}
use Rattle.celf_surface.specs.Surface.{pattern_tree}
use Rattle.celf_sugar.specs.Sugar.{binders}
use Rattle.celf_sugar.proofs.object.+binders.Given as goal

abbrev pub invariant-all_binders-loop-pattern : goal.invariant-all_binders-loop-pattern
invariant-all_binders-loop-pattern l = l.entries ≡ flat_map binders (map pattern_tree (take l.pattern-index l.patterns))
