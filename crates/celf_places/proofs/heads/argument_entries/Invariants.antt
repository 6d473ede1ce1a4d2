-- The entries are those of the arguments so far.
use Rattle.std.proofs.Common.{◌≡◌, map, take}
use Rattle.clf_syntax.specs.PlainTypes.{plain_ty}
use Rattle.clf_syntax.specs.PlainSimple.{plain_simple_entry}
use Rattle.celf_places.specs.Heads.{argument_entry}
use Rattle.celf_places.proofs.heads.argument_entries.Given as goal

abbrev pub invariant-loop-arg : goal.invariant-loop-arg
invariant-loop-arg l = map plain_simple_entry l.entries ≡ map argument_entry (map plain_ty (take l.arg-index l.args))
