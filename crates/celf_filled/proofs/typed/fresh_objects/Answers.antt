use Rattle.std.proofs.Common.{ap, ◌∙◌, ◌≡◌, ◌+◌, ◌∷◌, [], map, drop, reverse}
use Rattle.std.proofs.lemmas.List.{map-append}
use Rattle.clf_syntax.specs.Plain.{plain_obj}
use Rattle.clf_syntax.specs.PlainSimple.{plain_simple_entry}
use Rattle.metavars.specs.Fresh.{scope_of, new_types}
use Rattle.celf_filled.specs.States.{count}
use Rattle.celf_filled.specs.TypedFrom.{type_of_entry, fresh_objects, new_of_each}
use Rattle.celf_filled.proofs.Grown.{grown_count, goes_next, from_here, object_next}
use Rattle.celf_filled.proofs.typed.fresh_objects.Goals as goal

pub loop-entry-preserved : goal.loop-entry-preserved
loop-entry-preserved c =
    let scope = scope_of (map plain_simple_entry (reverse c.args.locals.now)) in
    let t = type_of_entry (plain_simple_entry c.entry-item.result) in
    let ts = map type_of_entry (map plain_simple_entry (drop (c.loop-entry.entry-index + 1) c.args.wanted.now)) in
    let here : map type_of_entry (map plain_simple_entry (drop c.loop-entry.entry-index c.args.wanted.now)) ≡ t ∷ ts = ap (map type_of_entry) (from_here plain_simple_entry c.args.wanted.now c.loop-entry.entry-index c.entry-item.result c.loop-entry-test.true c.entry-item.is) in
    record {
      made = object_next scope (count c.loop-entry.store) (count c.fresh_object.new.store) t ts (map plain_obj c.loop-entry.objects) (map plain_obj c.push.new.self)
          (fresh_objects (count c.args.store.now) scope (map type_of_entry (map plain_simple_entry c.args.wanted.now))) (plain_obj c.in_ok-fresh_object.field-0)
          (rw here at c.loop-entry.invariant.made) c.in_ok-fresh_object.ensures.made (grown_count c.loop-entry.store c.fresh_object.new.store (new_types scope t) c.in_ok-fresh_object.ensures.grown)
          (ap (map plain_obj) c.in_ok-push.ensures.ok ∙ map-append plain_obj c.loop-entry.objects (c.in_ok-fresh_object.field-0 ∷ []));
      grown = goes_next c.args.store.now c.loop-entry.store c.fresh_object.new.store (new_types scope t) (new_of_each scope ts) (new_of_each scope (map type_of_entry (map plain_simple_entry c.args.wanted.now)))
          (rw here at c.loop-entry.invariant.grown) c.in_ok-fresh_object.ensures.grown;
    }
