-- What has been read goes before what is left, over the binders of the entries so far.
use Rattle.std.proofs.Common.{◌≡◌, map, drop}
use Rattle.clf_syntax.specs.PlainTypes.{plain_tele_entry}
use Rattle.clf_sig.specs.Signature.{plain_signature}
use Rattle.celf_sugar.specs.Plain.{desugared_entry}
use Rattle.celf_places.specs.Locals.{plain_locals}
use Rattle.celf_places.specs.Along.{with_some, read_along}
use Rattle.celf_explicit.specs.Lists.{read_entry, behind_entry}
use Rattle.celf_explicit.proofs.types.+types.Given as goal

abbrev pub invariant-read_entries-loop-index : goal.invariant-read_entries-loop-index
invariant-read_entries-loop-index l =
    with_some (map plain_tele_entry l.read) (read_along (read_entry (plain_signature l.sig)) (behind_entry (plain_signature l.sig)) (plain_locals l.locals) (map desugared_entry (drop l.index l.entries)))
    ≡ read_along (read_entry (plain_signature l.sig)) (behind_entry (plain_signature l.sig)) (plain_locals l.outer) (map desugared_entry l.entries)
