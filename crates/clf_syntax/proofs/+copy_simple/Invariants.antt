-- What has been copied is the front of the list.
use Rattle.std.proofs.Common.{◌≡◌, take}
use Rattle.clf_syntax.proofs.+copy_simple.Given as goal

abbrev pub invariant-simple::copy_simple_entries-loop-entry : goal.invariant-simple::copy_simple_entries-loop-entry
invariant-simple::copy_simple_entries-loop-entry l = l.copied ≡ take l.entry-index l.entries
