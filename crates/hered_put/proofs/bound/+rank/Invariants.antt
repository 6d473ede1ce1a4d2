-- What is wanted of the whole is what is done and what is wanted of the rest.
use Rattle.std.proofs.Common.{◌≡◌, ◌+◌, drop, map}
use Rattle.clf_syntax.specs.PlainSimple.{plain_simple_entry, simple_telescope_of}
use Rattle.hered_subst.proofs.SimpleTyping.{ranks}
use Rattle.hered_put.proofs.bound.+rank.Given as goal

abbrev pub invariant-entries_rank-loop-entry : goal.invariant-entries_rank-loop-entry
invariant-entries_rank-loop-entry l = l.all + ranks (simple_telescope_of (map plain_simple_entry (drop l.entry-index l.entries))) ≡ ranks (simple_telescope_of (map plain_simple_entry l.entries))
