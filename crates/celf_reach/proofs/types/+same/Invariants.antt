use Rattle.std.proofs.Common.{◌≡◌, map, length, drop}
use Rattle.clf_syntax.specs.PlainSimple.{plain_simple_entry, simple_telescope_of}
use Rattle.clf_simple.specs.Decision as spec
use Rattle.celf_reach.proofs.types.+same.Given as goal

abbrev pub invariant-same_entries-loop-place : goal.invariant-same_entries-loop-place
invariant-same_entries-loop-place l = (length l.entries ≡ length l.others)
    × (spec.same_telescope (simple_telescope_of (map plain_simple_entry (drop l.place l.entries))) (simple_telescope_of (map plain_simple_entry (drop l.place l.others)))
    ≡ spec.same_telescope (simple_telescope_of (map plain_simple_entry l.entries)) (simple_telescope_of (map plain_simple_entry l.others)))
