use Rattle.std.proofs.Common.{◌≡◌, drop, map}
use Rattle.clf_syntax.specs.PlainTypes.{plain_tele_entry}
use Rattle.clf_syntax.specs.TypeTree.{telescope_of}
use Rattle.clf_syntax.specs.Renamings.{renumbering_by}
use Rattle.clf_syntax.specs.Written.{fits_telescope}
use Rattle.clf_syntax.specs.Renumbered as spec
use Rattle.clf_syntax.proofs.rename.+rename_type.Given as goal

abbrev pub invariant-rename_entries-loop-entry : goal.invariant-rename_entries-loop-entry
invariant-rename_entries-loop-entry l = record {
  shape : spec.renumber_telescope (renumbering_by l.names) l.depth (telescope_of (map plain_tele_entry l.entries)) ≡ spec.entries_on (map plain_tele_entry l.renamed) (spec.renumber_telescope (renumbering_by l.names) l.inner (telescope_of (map plain_tele_entry (drop l.entry-index l.entries))));
  fits : fits_telescope (spec.renumber_telescope (renumbering_by l.names) l.depth (telescope_of (map plain_tele_entry l.entries))) ≡ fits_telescope (spec.renumber_telescope (renumbering_by l.names) l.inner (telescope_of (map plain_tele_entry (drop l.entry-index l.entries))));
}
