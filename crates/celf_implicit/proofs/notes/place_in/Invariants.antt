-- The variable is none of those so far.
use Rattle.std.proofs.Common.{◌≡◌, false, map, take}
use Rattle.celf_implicit.specs.Variables.{is_among}
use Rattle.celf_implicit.specs.Answers.{plain_implicit}
use Rattle.celf_implicit.proofs.notes.place_in.Given as goal

abbrev pub invariant-loop-index : goal.invariant-loop-index
invariant-loop-index l = is_among (map plain_implicit (take l.index l.variable-items)) l.name ≡ false
