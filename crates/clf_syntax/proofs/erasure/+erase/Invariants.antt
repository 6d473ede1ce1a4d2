-- What has been erased is the front of the telescope.
use Rattle.std.proofs.Common.{◌≡◌, map, take}
use Rattle.clf_syntax.specs.PlainTypes.{plain_tele_entry}
use Rattle.clf_syntax.specs.Erasure.{erase_entry}
use Rattle.clf_syntax.specs.PlainSimple.{plain_simple_entry}
use Rattle.clf_syntax.proofs.erasure.+erase.Given as goal

abbrev pub invariant-erase_entries-loop-entry : goal.invariant-erase_entries-loop-entry
invariant-erase_entries-loop-entry l = map plain_simple_entry l.erased ≡ map erase_entry (map plain_tele_entry (take l.entry-index l.entries))
