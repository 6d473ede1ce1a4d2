-- What appeared, with what is still to be looked at, is what appears in all.
use Rattle.std.proofs.Common.{◌≡◌, drop, map}
use Rattle.clf_syntax.specs.PlainTypes.{plain_tele_entry}
use Rattle.clf_syntax.specs.TypeTree.{telescope_of}
use Rattle.clf_printer.specs.Metas.{appearing_telescope}
use Rattle.celf_reconstruct.proofs.left.note_entries.Given as goal

abbrev pub invariant-loop-entry : goal.invariant-loop-entry
invariant-loop-entry l = appearing_telescope l.metas.items (telescope_of (map plain_tele_entry (drop l.entry-index l.entries)))
    ≡ appearing_telescope l.fn.metas.items (telescope_of (map plain_tele_entry l.entries))
