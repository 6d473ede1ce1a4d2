-- What is wanted of the whole is what is done and what is wanted of the rest.
use Rattle.std.proofs.Common.{◌≡◌, drop, map}
use Rattle.clf_syntax.specs.PlainTypes.{plain_tele_entry}
use Rattle.clf_syntax.specs.TypeTree.{telescope_of}
use Rattle.hered_put.specs.Environments.{environment_of}
use Rattle.hered_put.specs.TypePieces.{tele_of}
use Rattle.hered_put.proofs.TypePieces.{entries_before}
use Rattle.hered_put.proofs.types.+put_type.Given as goal

abbrev pub invariant-put_tele_entries-loop-entry : goal.invariant-put_tele_entries-loop-entry
invariant-put_tele_entries-loop-entry l = tele_of l.bound.rank (environment_of l.environment) (telescope_of (map plain_tele_entry l.entries))
    ≡ entries_before (map plain_tele_entry l.put) (tele_of l.bound.rank (environment_of l.inner) (telescope_of (map plain_tele_entry (drop l.entry-index l.entries))))
