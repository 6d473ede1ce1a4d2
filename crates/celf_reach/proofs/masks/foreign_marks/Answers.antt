use Rattle.std.specs.Prelude.{◌≡◌, not}
use Rattle.std.specs.List.{list_any}
use Rattle.std.proofs.Common.{ap, subst, ◌∙◌, arith}
use Rattle.celf_constraints.specs.declared.places.Place.{Place}
use Rattle.celf_constraints.specs.Reading.{plain_place}
use Rattle.celf_reach.specs.Masks.{has_local}
use Rattle.celf_reach.proofs.Masking.{MarkedTo, marked_more, marks_foreign}
use Rattle.celf_reach.proofs.masks.foreign_marks.Goals as goal

pub loop-local-preserved : goal.loop-local-preserved
loop-local-preserved c = marked_more (λ j. not (list_any (λ (p : Place). has_local j (plain_place p)) c.args.places.now.places.items)) c.loop-local.local c.loop-local.marks.items _ (not c.is_among.result) c.loop-local.invariant
    (ap not (c.is_among.ensures ∙ ap (list_any (λ (p : Place). has_local c.loop-local.local (plain_place p))) c.as_slice.ensures.value)) c.in_ok-push.ensures.items

pub returns : goal.returns
returns c =
    let whole : c.loop-local.local ≡ c.args.count = omega arith in
    marks_foreign plain_place c.args.places.now.places.items c.args.count c.loop-local.marks.items
    (subst (λ k. MarkedTo (λ j. not (list_any (λ (p : Place). has_local j (plain_place p)) c.args.places.now.places.items)) k c.loop-local.marks.items) whole c.loop-local.invariant)
