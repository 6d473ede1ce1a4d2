use Rattle.std.proofs.Common.{ap, sym, true, map}
use Rattle.std.specs.Prelude.{option_copied}
use Rattle.clf_sig.specs.Signature.{plain_signature}
use Rattle.celf_sugar.specs.PlainTree.{DesugaredEntry}
use Rattle.celf_sugar.specs.Plain.{desugared_entry, entry-of}
use Rattle.celf_places.specs.Along.{left_along}
use Rattle.celf_places.proofs.AlongLaws.{left_next}
use Rattle.celf_implicit.specs.Answers.{plain_implicit}
use Rattle.celf_implicit.specs.Noting.{plain_notes, plain_scope, after_entry}
use Rattle.celf_implicit.proofs.Walks.{entry_noted, local_here}
use Rattle.celf_implicit.proofs.types.+types.Goals as goal

pub note_entries-loop-index-preserved : goal.note_entries-loop-index-preserved
note_entries-loop-index-preserved t c =
    left_next desugared_entry (after_entry (plain_signature c.args.sig.now) (map plain_implicit c.args.found.now)) (plain_notes c.loop-index.notes, plain_scope c.loop-index.binders true) c.args.entries.now c.loop-index.index
    (left_along (after_entry (plain_signature c.args.sig.now) (map plain_implicit c.args.found.now)) (plain_notes c.args.notes.now, plain_scope c.args.outer true) (map desugared_entry c.args.entries.now))
    c.index-entries-index.result (plain_notes c.note_entry.new.notes, plain_scope c.bind.new.self true) c.loop-index-test.true c.index-entries-index.is c.loop-index.invariant
    (entry_noted (plain_signature c.args.sig.now) (map plain_implicit c.args.found.now) (plain_notes c.loop-index.notes) (plain_notes c.note_entry.new.notes) c.loop-index.binders c.bind.new.self (desugared_entry c.index-entries-index.result)
    c.index-entries-index.result.mode c.index-entries-index.result.name (option_copied c.place_at.result) c.in_ok-note_entry.ensures c.in_ok-bind.ensures
    (sym (ap (λ (x : DesugaredEntry). x.0) (entry-of c.index-entries-index.result)))
    (local_here (plain_signature c.args.sig.now) c.args.simples.now c.args.entries.now c.loop-index.index c.index-entries-index.result c.index-entries-index.result.name (option_copied c.place_at.result)
    c.loop-index-test.true c.index-entries-index.is c.requires c.place_at.ensures (sym (ap (λ (x : DesugaredEntry). x.1) (entry-of c.index-entries-index.result)))))
