use Rattle.std.proofs.Common.{◌≡◌, ◌++◌, drop, map}
use Rattle.clf_syntax.specs.Plain.{plain_obj}
use Rattle.celf_front.specs.FrontHeads.{heads_by}
use Rattle.celf_front.specs.Replaced as spec
use Rattle.celf_front.proofs.types.front_indices.Given as goal

abbrev pub invariant-loop-index : goal.invariant-loop-index
invariant-loop-index l = map plain_obj l.placed ++ map (spec.replaced (heads_by l.front) l.depth) (map plain_obj (drop l.index-index l.indices)) ≡ map (spec.replaced (heads_by l.front) l.depth) (map plain_obj l.indices)
