-- The types are those of the entries so far.
use Rattle.std.proofs.Common.{◌≡◌, map, take}
use Rattle.clf_syntax.specs.PlainTypes.{plain_ty, plain_tele_entry}
use Rattle.celf_explicit.specs.Parts.{entry_type}
use Rattle.celf_filled.proofs.items.arguments.Given as goal

abbrev pub invariant-loop-entry : goal.invariant-loop-entry
invariant-loop-entry l = map plain_ty l.args ≡ map entry_type (map plain_tele_entry (take l.entry-index l.entries))
