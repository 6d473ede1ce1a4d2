use Rattle.std.proofs.Common.{◌≡◌, take}
use Rattle.clf_syntax.proofs.+copy_ty.Given as goal

abbrev pub invariant-types::copy_entries-loop-entry : goal.invariant-types::copy_entries-loop-entry
invariant-types::copy_entries-loop-entry l = l.copied ≡ take l.entry-index l.entries
