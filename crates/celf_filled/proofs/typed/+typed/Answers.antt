use Rattle.std.proofs.Common.{ap, sym, refl, ◌∙◌, ◌≡◌, ◌+◌, ◌∷◌, [], map, drop, reverse}
use Rattle.std.proofs.lemmas.List.{map-append}
use Rattle.clf_syntax.specs.TypeTree.{simple_top}
use Rattle.clf_syntax.specs.PlainTypes.{plain_tele_entry, plain-Top}
use Rattle.clf_syntax.specs.PlainSimple.{plain_simple, plain_simple_entry, plain-SimpleTop}
use Rattle.clf_sig.specs.Signature.{plain_signature}
use Rattle.celf_filled.specs.States.{count, IsGrownBy}
use Rattle.celf_filled.specs.TypedFrom.{indices_of, new_in, new_in_entries, typed_from, typed_entry, typed_entries}
use Rattle.celf_filled.proofs.Grown.{grown_none, grown_count, goes_next, from_here, entry_next, one_more}
use Rattle.celf_filled.proofs.typed.+typed.Goals as goal

pub type_under-returns-in-Top-clause-made : goal.type_under-returns-in-Top-clause-made
type_under-returns-in-Top-clause-made t c =
    let e : plain_simple c.args.simple.now ≡ simple_top = cc (plain-SimpleTop) in
    plain-Top ∙ sym (ap (typed_from (indices_of (plain_signature c.args.sig.now)) (count c.args.store.now) (map plain_simple_entry (reverse c.args.locals.now))) e)

pub type_under-returns-in-Top-clause-grown : goal.type_under-returns-in-Top-clause-grown
type_under-returns-in-Top-clause-grown t c =
    let e : plain_simple c.args.simple.now ≡ simple_top = cc (plain-SimpleTop) in
    rw e (grown_none c.args.store.now)

pub entries_under-loop-entry-preserved : goal.entries_under-loop-entry-preserved
entries_under-loop-entry-preserved t c =
    let indices = indices_of (plain_signature c.args.sig.now) in
    let ls = map plain_simple_entry (reverse c.loop-entry.locals) in
    let e = plain_simple_entry c.entry-item.result in
    let es = map plain_simple_entry (drop (c.loop-entry.entry-index + 1) c.args.entries.now) in
    let outer = map plain_simple_entry (reverse c.args.outer.now) in
    let here : map plain_simple_entry (drop c.loop-entry.entry-index c.args.entries.now) ≡ e ∷ es = from_here plain_simple_entry c.args.entries.now c.loop-entry.entry-index c.entry-item.result c.loop-entry-test.true c.entry-item.is in
    let inner : map plain_simple_entry (reverse c.push-in-loop-entry.new.self) ≡ e ∷ ls =
    one_more c.loop-entry.locals c.loop-entry.locals c.push-in-loop-entry.new.self c.in_ok-copy.field-0 refl c.in_ok-push-2.ensures.ok ∙ ap (λ x. plain_simple_entry x ∷ ls) c.in_ok-copy.ensures in
    let under : map plain_simple_entry (reverse c.as_slice.result.now) ≡ ls = ap (λ xs. map plain_simple_entry (reverse xs)) c.as_slice.ensures in
    let grown : IsGrownBy c.loop-entry.store c.entry_under.new.store (new_in indices ls e.1) = rw (sym under) c.in_ok-entry_under.ensures.grown in
    record {
      made = rw inner (entry_next indices ls (count c.loop-entry.store) (count c.entry_under.new.store) e es (map plain_tele_entry c.loop-entry.typed) (map plain_tele_entry c.push.new.self)
          (typed_entries indices (count c.args.store.now) outer (map plain_simple_entry c.args.entries.now)) (plain_tele_entry c.in_ok-entry_under.field-0)
          (rw here at c.loop-entry.invariant.made) (c.in_ok-entry_under.ensures.made ∙ ap (λ xs. typed_entry indices (count c.loop-entry.store) xs e) under) (grown_count c.loop-entry.store c.entry_under.new.store (new_in indices ls e.1) grown)
          (ap (map plain_tele_entry) c.in_ok-push.ensures.ok ∙ map-append plain_tele_entry c.loop-entry.typed (c.in_ok-entry_under.field-0 ∷ [])));
      grown = rw inner (goes_next c.args.store.now c.loop-entry.store c.entry_under.new.store (new_in indices ls e.1) (new_in_entries indices (e ∷ ls) es) (new_in_entries indices outer (map plain_simple_entry c.args.entries.now))
          (rw here at c.loop-entry.invariant.grown) grown);
    }
