use Rattle.std.proofs.Common.{◌≡◌, drop, map}
use Rattle.clf_syntax.specs.PlainTypes.{plain_tele_entry}
use Rattle.clf_syntax.specs.TypeTree.{telescope_of}
use Rattle.clf_printer.specs.Metas.{appearing_telescope}
use Rattle.clf_printer.proofs.metas.+note_type.Given as goal

abbrev pub invariant-note_telescope-loop-entry : goal.invariant-note_telescope-loop-entry
invariant-note_telescope-loop-entry l =
    appearing_telescope l.metas.items (telescope_of (map plain_tele_entry (drop l.entry-index l.entries))) ≡ appearing_telescope l.fn.metas.items (telescope_of (map plain_tele_entry l.entries))
