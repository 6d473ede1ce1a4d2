use Rattle.std.proofs.Common.{ap, sym, ◌∙◌, ◌∷◌}
use Rattle.std.specs.Prelude.{map, option_copied, option_map}
use Rattle.clf_syntax.specs.PlainTypes.{plain_tele_entry}
use Rattle.clf_sig.specs.Signature.{plain_signature}
use Rattle.celf_sugar.specs.PlainTree.{DesugaredEntry}
use Rattle.celf_sugar.specs.Plain.{desugared_entry, entry-of}
use Rattle.celf_places.specs.Locals.{plain_place, plain_locals}
use Rattle.celf_places.specs.Along.{read_along}
use Rattle.celf_explicit.specs.Lists.{read_entry, behind_entry}
use Rattle.celf_places.proofs.AlongLaws.{one_along}
use Rattle.celf_explicit.proofs.TypeLists.{local_here}
use Rattle.celf_explicit.proofs.types.+types.Goals as goal

pub read_entries-loop-index-preserved : goal.read_entries-loop-index-preserved
read_entries-loop-index-preserved t c =
    one_along desugared_entry (read_entry (plain_signature c.args.sig.now)) (behind_entry (plain_signature c.args.sig.now)) (plain_locals c.loop-index.locals) c.args.entries.now c.loop-index.index
    plain_tele_entry c.index-entries-index.result c.loop-index.read c.push.new.self c.in-Some.entry (plain_locals c.push-in-loop-index.new.self)
    (read_along (read_entry (plain_signature c.args.sig.now)) (behind_entry (plain_signature c.args.sig.now)) (plain_locals c.args.outer.now) (map desugared_entry c.args.entries.now))
    c.loop-index-test.true c.index-entries-index.is c.loop-index.invariant
    (sym (ap (option_map plain_tele_entry) c.in-Some.is) ∙ c.in_ok-entry.ensures.read)
    c.in_ok-push-in-Some.ensures.ok
    (ap plain_locals c.in_ok-push.ensures
    ∙ ap (λ ls. (c.index-entries-index.result.name, plain_place (option_copied c.place_at.result)) ∷ plain_locals ls) c.in_ok-entry.ensures.kept
    ∙ local_here (plain_signature c.args.sig.now) c.args.simples.now c.args.entries.now c.loop-index.index c.index-entries-index.result c.index-entries-index.result.name (option_copied c.place_at.result) (plain_locals c.loop-index.locals)
    c.loop-index-test.true c.index-entries-index.is c.requires c.place_at.ensures (sym (ap (λ (x : DesugaredEntry). x.1) (entry-of c.index-entries-index.result))))
