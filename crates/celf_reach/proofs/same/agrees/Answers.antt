use Rattle.std.specs.Prelude.{◌<◌, not, length, map, get_or, refl}
use Rattle.std.proofs.Common.{ap, sym, ◌∙◌, arith}
use Rattle.clf_syntax.specs.PlainSimple.{plain_simple}
use Rattle.pattern_laws.specs.Patterns.{blank}
use Rattle.celf_constraints.specs.declared.places.Place.{Place}
use Rattle.celf_constraints.specs.Reading.{plain_place}
use Rattle.celf_reach.proofs.Agreed.{local_there, read_same, local_past, read_blank, read_local, agrees_blank, agrees_none, agrees_some}
use Rattle.celf_reach.proofs.same.agrees.Goals as goal

pub returns-then-is_blank : goal.returns-then-is_blank
returns-then-is_blank c = agrees_blank (map plain_place c.args.places.now) (map plain_place c.args.others.now) c.args.place
    (local_there c.args.places.now c.args.place c.index-places-place.result c.requires
    ∙ read_blank (blank (plain_simple (get_or c.args.places.now c.args.place c.index-places-place.result).ty.now)) (get_or c.args.places.now c.args.place c.index-places-place.result).local (sym c.is_blank.ensures ∙ c.if-is_blank.true))

pub returns-then-place-others : goal.returns-then-place-others
returns-then-place-others c = agrees_none (map plain_place c.args.places.now) (map plain_place c.args.others.now) c.args.place (get_or c.args.places.now c.args.place c.index-places-place.result).local _
    (local_there c.args.places.now c.args.place c.index-places-place.result c.requires
    ∙ read_local (blank (plain_simple (get_or c.args.places.now c.args.place c.index-places-place.result).ty.now)) (get_or c.args.places.now c.args.place c.index-places-place.result).local (sym c.is_blank.ensures ∙ c.if-is_blank.false))
    (local_past c.args.others.now c.args.place (omega (arith, c.if-place-others.true))) refl

pub returns-then-not-is_blank : goal.returns-then-not-is_blank
returns-then-not-is_blank c =
    let lt : c.args.place < length c.args.others.now = omega (arith, c.if-place-others.false) in
    let here : Place = c.index-places-place-then-not-is_blank.result in
    let there : Place = c.index-others-place-then-not-is_blank.result in
    agrees_some (map plain_place c.args.places.now) (map plain_place c.args.others.now) c.args.place (get_or c.args.places.now c.args.place here).local (get_or c.args.others.now c.args.place there).local
    (local_there c.args.places.now c.args.place here c.requires ∙ read_local (blank (plain_simple (get_or c.args.places.now c.args.place here).ty.now)) (get_or c.args.places.now c.args.place here).local
    (ap (λ (x : Place). blank (plain_simple x.ty.now)) (read_same c.args.places.now c.args.place here c.index-places-place.result c.requires) ∙ sym c.is_blank.ensures ∙ c.if-is_blank.false))
    (local_there c.args.others.now c.args.place there lt ∙ read_local (blank (plain_simple (get_or c.args.others.now c.args.place there).ty.now)) (get_or c.args.others.now c.args.place there).local
    (ap (λ (x : Place). blank (plain_simple x.ty.now)) (read_same c.args.others.now c.args.place there c.index-others-place.result lt) ∙ sym c.is_blank-2.ensures ∙ c.if-not-is_blank.true))

pub returns-else-not-is_blank : goal.returns-else-not-is_blank
returns-else-not-is_blank c =
    let lt : c.args.place < length c.args.others.now = omega (arith, c.if-place-others.false) in
    agrees_none (map plain_place c.args.places.now) (map plain_place c.args.others.now) c.args.place (get_or c.args.places.now c.args.place c.index-places-place.result).local (not c.is_blank-2.result)
    (local_there c.args.places.now c.args.place c.index-places-place.result c.requires
    ∙ read_local (blank (plain_simple (get_or c.args.places.now c.args.place c.index-places-place.result).ty.now)) (get_or c.args.places.now c.args.place c.index-places-place.result).local (sym c.is_blank.ensures ∙ c.if-is_blank.false))
    (local_there c.args.others.now c.args.place c.index-others-place.result lt
    ∙ read_blank (blank (plain_simple (get_or c.args.others.now c.args.place c.index-others-place.result).ty.now)) (get_or c.args.others.now c.args.place c.index-others-place.result).local (sym c.is_blank-2.ensures ∙ c.if-not-is_blank.false))
    (ap not c.if-not-is_blank.false)
