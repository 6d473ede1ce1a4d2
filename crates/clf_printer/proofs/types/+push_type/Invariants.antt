use Rattle.std.proofs.Common.{◌≡◌, ◌++◌, drop, map}
use Rattle.clf_syntax.specs.PlainTypes.{plain_tele_entry}
use Rattle.clf_syntax.specs.TypeTree.{telescope_of}
use Rattle.clf_sig.specs.Signature.{plain_signature}
use Rattle.clf_printer.specs.Text.{telescope_text}
use Rattle.clf_printer.proofs.types.+push_type.Given as goal

abbrev pub invariant-push_telescope-loop-entry : goal.invariant-push_telescope-loop-entry
invariant-push_telescope-loop-entry l = record {
  seen : l.seen ≡ l.entry-index;
  written : l.out.items ++ telescope_text (plain_signature l.sig) l.metas l.inner (telescope_of (map plain_tele_entry (drop l.entry-index l.entries))) ≡ l.fn.out.items ++ telescope_text (plain_signature l.sig) l.metas l.level (telescope_of (map plain_tele_entry l.entries));
}
