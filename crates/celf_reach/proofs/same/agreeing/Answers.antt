use Rattle.std.specs.Prelude.{◌≡◌, ◌↔◌, ◌<◌, true, length, map}
use Rattle.std.proofs.Common.{ap, sym, subst, ◌∙◌, arith}
use Rattle.std.proofs.lemmas.List.{length-map}
use Rattle.celf_constraints.specs.Reading.{plain_place, plain_places}
use Rattle.celf_reach.specs.Agreeing.{AgreesAt}
use Rattle.celf_reach.proofs.Agreed.{held_read, agreed_more, agreed_all, circle_there}
use Rattle.clf_syntax.proofs.OccursLaws.{not_both}
use Rattle.celf_reach.proofs.same.agreeing.Goals.{else-not-same-via-then-not-same+else-not-index, else-not-same-via-else-not-same}
use Rattle.celf_reach.proofs.same.agreeing.Goals as goal

pub returns-then-not-index : goal.returns-then-not-index
returns-then-not-index c =
    let at : c.loop-place.place < length c.as_slice-here.result.now = omega (arith, c.loop-place-test.true) in
    let lt : c.loop-place.place < length c.in_ok-ended.ended.items = subst (λ n. c.loop-place.place < n) (ap length c.as_slice-here.ensures.value ∙ sym c.in_ok-ended.ensures.lengths) at in
    circle_there (plain_places c.args.places.now) (plain_places c.args.others.now) c.loop-place.place c.agrees-same.result
    (subst (λ l. (c.agrees-same.result ≡ true) ↔ AgreesAt (plain_places c.args.places.now) (map plain_place l) c.loop-place.place) c.as_slice.ensures.value
    (subst (λ l. (c.agrees-same.result ≡ true) ↔ AgreesAt (map plain_place l) (map plain_place c.as_slice.result.now) c.loop-place.place) c.as_slice-here.ensures.value c.agrees-same.ensures)) c.if-not-same.true
    (λ k. not_both (held_read c.in_ok-ended.ended.items c.loop-place.place c.index.result.now lt c.index.ensures ∙ (c.in_ok-ended.ensures.ends c.loop-place.place).1 k) c.if-not-index.true)

pub loop-place-preserved : goal.loop-place-preserved
loop-place-preserved c =
    let at : c.loop-place.place < length c.as_slice-here.result.now = omega (arith, c.loop-place-test.true) in
    let lt : c.loop-place.place < length c.in_ok-ended.ended.items = subst (λ n. c.loop-place.place < n) (ap length c.as_slice-here.ensures.value ∙ sym c.in_ok-ended.ensures.lengths) at in
    agreed_more (plain_places c.args.places.now) (plain_places c.args.others.now) c.loop-place.place c.loop-place.mask.items c.push.new.self.items c.agrees-same.result c.loop-place.invariant
    (subst (λ l. (c.agrees-same.result ≡ true) ↔ AgreesAt (plain_places c.args.places.now) (map plain_place l) c.loop-place.place) c.as_slice.ensures.value
    (subst (λ l. (c.agrees-same.result ≡ true) ↔ AgreesAt (map plain_place l) (map plain_place c.as_slice.result.now) c.loop-place.place) c.as_slice-here.ensures.value c.agrees-same.ensures)) (λ f. elim c.else-not-same.branch [
      | else-not-same-via-then-not-same+else-not-index w ↦ (c.in_ok-ended.ensures.ends c.loop-place.place).0 (sym (held_read c.in_ok-ended.ended.items c.loop-place.place w.index.result.now lt w.index.ensures) ∙ w.if-not-index.false)
      | else-not-same-via-else-not-same w ↦ absurd (not_both w.if-not-same.false f)
    ]) c.in_ok-push.ensures.items

pub returns : goal.returns
returns c =
    let whole : c.loop-place.place ≡ length c.as_slice-here.result.now = omega arith in
    agreed_all (plain_places c.args.places.now) (plain_places c.args.others.now) c.loop-place.place c.loop-place.mask.items c.loop-place.invariant
    (whole ∙ ap length c.as_slice-here.ensures.value ∙ sym (length-map c.args.places.now.places.items plain_place))
