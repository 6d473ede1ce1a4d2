-- What is noted so far and the heads of what is left are what was there and the heads of all.
use Rattle.std.proofs.Common.{◌≡◌, ◌++◌, drop, map}
use Rattle.std.specs.List.{flat_map}
use Rattle.clf_syntax.specs.Plain.{plain_obj}
use Rattle.celf_front.specs.Occurring.{heads_in}
use Rattle.celf_front.proofs.occurring_types.note_indices.Given as goal

abbrev pub invariant-loop-index : goal.invariant-loop-index
invariant-loop-index l = l.heads ++ flat_map heads_in (map plain_obj (drop l.index-index l.indices)) ≡ l.fn.heads ++ flat_map heads_in (map plain_obj l.indices)
