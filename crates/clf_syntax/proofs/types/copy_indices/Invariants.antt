use Rattle.std.proofs.Common.{◌≡◌, take}
use Rattle.clf_syntax.proofs.types.copy_indices.Given as goal

abbrev pub invariant-loop-index : goal.invariant-loop-index
invariant-loop-index l = l.copied ≡ take l.index-index l.indices
