use Rattle.std.proofs.Common.{◌≡◌, map, length, drop}
use Rattle.clf_syntax.specs.PlainSimple.{plain_simple_entry, simple_telescope_of}
use Rattle.clf_simple.specs.Decision as spec
use Rattle.clf_simple.proofs.same.has_modes.Given as goal

abbrev pub invariant-loop-place : goal.invariant-loop-place
invariant-loop-place l = (length l.entries ≡ length l.modes)
    × (spec.has_modes (simple_telescope_of (map plain_simple_entry (drop l.place l.entries))) (drop l.place l.modes) ≡ spec.has_modes (simple_telescope_of (map plain_simple_entry l.entries)) l.modes)
