use Rattle.std.proofs.Common.{◌≡◌, ◌≤◌, ℕ, drop, map, min}
use Rattle.clf_syntax.specs.declared.number.TheConstants.{BEYOND}
use Rattle.clf_syntax.specs.PlainTypes.{plain_tele_entry}
use Rattle.clf_syntax.specs.TypeTree.{telescope_of}
use Rattle.clf_syntax.specs.Occurs as spec
use Rattle.clf_syntax.proofs.occurs.+occurs_type.Given as goal

abbrev pub invariant-occurs_entries-loop-entry : goal.invariant-occurs_entries-loop-entry
invariant-occurs_entries-loop-entry l = record {
  within : l.inner ≤ BEYOND;
  same : (v : ℕ) → min v BEYOND ≡ l.var → (w : ℕ) × (min w BEYOND ≡ l.inner)
      × (spec.occurs_telescope v (telescope_of (map plain_tele_entry l.entries)) ≡ spec.occurs_telescope w (telescope_of (map plain_tele_entry (drop l.entry-index l.entries))));
}
