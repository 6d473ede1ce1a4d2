use Rattle.std.proofs.Common.{ap, sym, ◌∙◌, refl}
use Rattle.std.specs.Prelude.{map, option_map}
use Rattle.clf_syntax.specs.PlainSimple.{plain_simple_entry}
use Rattle.clf_sig.specs.Signature.{plain_signature}
use Rattle.celf_sugar.specs.Plain.{desugared_entry}
use Rattle.celf_places.specs.Along.{read_along, stateless, simple_entry}
use Rattle.celf_places.proofs.AlongLaws.{one_along}
use Rattle.celf_places.proofs.simple.+simple.Goals as goal

pub simple_entries-loop-entry-preserved : goal.simple_entries-loop-entry-preserved
simple_entries-loop-entry-preserved t c =
    one_along desugared_entry (simple_entry (plain_signature c.args.sig.now)) stateless tt c.args.entries.now c.loop-entry.entry-index plain_simple_entry c.entry-item.result c.loop-entry.simple c.push.new.self c.in-Some.entry tt
    (read_along (simple_entry (plain_signature c.args.sig.now)) stateless tt (map desugared_entry c.args.entries.now))
    c.loop-entry-test.true c.entry-item.is c.loop-entry.invariant (sym (ap (option_map plain_simple_entry) c.in-Some.is) ∙ c.in_ok-entry.ensures) c.in_ok-push-in-Some.ensures.ok refl
