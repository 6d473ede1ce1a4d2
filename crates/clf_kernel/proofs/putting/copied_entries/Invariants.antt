-- What has been copied is the front of the list.
use Rattle.std.proofs.Common.{◌≡◌, take}
use Rattle.clf_kernel.proofs.putting.copied_entries.Given as goal

abbrev pub invariant-loop-entry : goal.invariant-loop-entry
invariant-loop-entry l = l.copied ≡ take l.entry-index l.fn.entries
