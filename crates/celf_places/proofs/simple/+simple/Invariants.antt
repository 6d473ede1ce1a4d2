-- What has been read goes before what is left.
use Rattle.std.proofs.Common.{◌≡◌, map, drop}
use Rattle.clf_syntax.specs.PlainSimple.{plain_simple_entry}
use Rattle.clf_sig.specs.Signature.{plain_signature}
use Rattle.celf_sugar.specs.Plain.{desugared_entry}
use Rattle.celf_places.specs.Along.{with_some, read_along, stateless, simple_entry}
use Rattle.celf_places.proofs.simple.+simple.Given as goal

abbrev pub invariant-simple_entries-loop-entry : goal.invariant-simple_entries-loop-entry
invariant-simple_entries-loop-entry l =
    with_some (map plain_simple_entry l.simple) (read_along (simple_entry (plain_signature l.sig)) stateless tt (map desugared_entry (drop l.entry-index l.entries)))
    ≡ read_along (simple_entry (plain_signature l.sig)) stateless tt (map desugared_entry l.entries)
