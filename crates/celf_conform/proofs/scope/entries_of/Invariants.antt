-- The entries so far are those of the locals before this place.
use Rattle.std.proofs.Common.{◌≡◌, take, map}
use Rattle.clf_syntax.specs.PlainSimple.{plain_simple_entry}
use Rattle.celf_conform.specs.Seen.{persistent_entry}
use Rattle.celf_conform.proofs.scope.entries_of.Given as goal

abbrev pub invariant-loop-local : goal.invariant-loop-local
invariant-loop-local l = map plain_simple_entry l.entries ≡ map persistent_entry (take l.local-index l.locals)
