use Rattle.std.proofs.Common.{◌≡◌, drop, not}
use Rattle.std.specs.List.{list_any}
use Rattle.celf_reach.proofs.masks.leaves_one.Given as goal

abbrev pub invariant-loop-kept : goal.invariant-loop-kept
invariant-loop-kept l = list_any not (drop l.kept-index l.mask) ≡ list_any not l.mask
