use Rattle.std.proofs.Common.{ap, ◌∙◌, ◌≡◌, ◌+◌, ◌++◌, ◌∷◌, [], map, drop}
use Rattle.std.proofs.lemmas.List.{map-append}
use Rattle.clf_syntax.specs.PlainTypes.{plain_ty}
use Rattle.clf_syntax.specs.PlainSimple.{plain_simple}
use Rattle.clf_sig.specs.Signature.{plain_signature}
use Rattle.celf_filled.specs.States.{count}
use Rattle.celf_filled.specs.TypedFrom.{indices_of, new_in}
use Rattle.celf_filled.proofs.Grown.{grown_count, goes_next, from_here}
use Rattle.filled_laws.specs.FreshTypes.{types_from, new_in_each}
use Rattle.celf_reconstruct.proofs.NameSteps.{type_next}
use Rattle.celf_reconstruct.proofs.read.add_types.Goals as goal

pub loop-simple-preserved : goal.loop-simple-preserved
loop-simple-preserved c =
    let indices = indices_of (plain_signature c.args.sig.now) in
    let t = plain_simple c.simple-item.result in
    let ts = map plain_simple (drop (c.loop-simple.simple-index + 1) c.args.simples.now) in
    let here : map plain_simple (drop c.loop-simple.simple-index c.args.simples.now) ≡ t ∷ ts = from_here plain_simple c.args.simples.now c.loop-simple.simple-index c.simple-item.result c.loop-simple-test.true c.simple-item.is in
    record {
      made = type_next indices (count c.loop-simple.store) (count c.typed_from.new.store) t ts (map plain_ty c.loop-simple.types) (map plain_ty c.push.new.self)
          (map plain_ty c.args.types.now ++ types_from indices (count c.args.store.now) (map plain_simple c.args.simples.now)) (plain_ty c.in_ok-typed_from.field-0)
          (rw here at c.loop-simple.invariant.made) c.in_ok-typed_from.ensures.made (grown_count c.loop-simple.store c.typed_from.new.store (new_in indices [] t) c.in_ok-typed_from.ensures.grown)
          (ap (map plain_ty) c.in_ok-push.ensures.ok ∙ map-append plain_ty c.loop-simple.types (c.in_ok-typed_from.field-0 ∷ []));
      grown = goes_next c.args.store.now c.loop-simple.store c.typed_from.new.store (new_in indices [] t) (new_in_each indices ts) (new_in_each indices (map plain_simple c.args.simples.now))
          (rw here at c.loop-simple.invariant.grown) c.in_ok-typed_from.ensures.grown;
    }
