use Rattle.std.proofs.Common.{ap, sym, ◌∙◌}
use Rattle.std.specs.Prelude.{map, option_copied, option_map}
use Rattle.clf_syntax.specs.Plain.{plain_obj}
use Rattle.clf_syntax.specs.PlainSimple.{plain_simple_entry}
use Rattle.clf_sig.specs.Signature.{plain_signature}
use Rattle.celf_sugar.specs.Plain.{desugared_object}
use Rattle.celf_places.specs.Locals.{plain_place, plain_locals}
use Rattle.celf_explicit.specs.Objects.{read_object}
use Rattle.celf_places.specs.Along.{read_along}
use Rattle.celf_explicit.specs.Lists.{later_parts, read_index}
use Rattle.celf_places.proofs.AlongLaws.{one_along}
use Rattle.celf_explicit.proofs.types.read_indices.Goals as goal

pub loop-index-preserved : goal.loop-index-preserved
loop-index-preserved c = record {
  read = one_along desugared_object (read_index (plain_signature c.args.sig.now) (plain_locals c.args.outer.now)) later_parts (map plain_simple_entry c.loop-index.wanted.now) c.args.indices.now c.loop-index.index-index
      plain_obj c.index-item.result c.loop-index.read c.push.new.self c.in-Some.obj (map plain_simple_entry c.next_part-next.result.later.now)
      (read_along (read_index (plain_signature c.args.sig.now) (plain_locals c.args.outer.now)) later_parts (map plain_simple_entry c.args.wanted.now) (map desugared_object c.args.indices.now))
      c.loop-index-test.true c.index-item.is c.loop-index.invariant.read
      (sym (ap (option_map plain_obj) c.in-Some.is) ∙ c.in_ok-obj.ensures.read
      ∙ ap (λ ls. read_object (plain_signature c.args.sig.now) (plain_locals ls) (plain_place (option_copied c.next_part-next.result.place)) (desugared_object c.index-item.result)) c.loop-index.invariant.kept
      ∙ ap (λ p. read_object (plain_signature c.args.sig.now) (plain_locals c.args.outer.now) p (desugared_object c.index-item.result)) c.next_part-next.ensures.place)
      c.in_ok-push-in-Some.ensures.ok c.next_part-next.ensures.later;
  kept = c.in_ok-obj.ensures.kept ∙ c.loop-index.invariant.kept;
}
