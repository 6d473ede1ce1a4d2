use Rattle.std.proofs.Common.{◌≡◌, ◌++◌, drop, map}
use Rattle.clf_syntax.specs.PlainSimple.{plain_simple_entry, simple_telescope_of}
use Rattle.clf_syntax.specs.Simple.{simple_modes}
use Rattle.clf_simple.proofs.expansion.modes_of.Given as goal

abbrev pub invariant-loop-entry : goal.invariant-loop-entry
invariant-loop-entry l = l.modes ++ simple_modes (simple_telescope_of (map plain_simple_entry (drop l.entry-index l.entries))) ≡ simple_modes (simple_telescope_of (map plain_simple_entry l.entries))
