use Rattle.std.proofs.Common.{map, ap, sym, subst, ◌∙◌, refl}
use Rattle.clf_syntax.proofs.OccursLaws.{not_both}
use Rattle.celf_constraints.specs.declared.places.Place.{Place}
use Rattle.celf_constraints.specs.Ended.{local_of, Apart}
use Rattle.celf_constraints.specs.Reading.{plain_place}
use Rattle.celf_constraints.proofs.Arranged.{arranged, not_arranged}
use Rattle.celf_constraints.proofs.places.arrange.Goals as goal

pub returns-then-are_distinct : goal.returns-then-are_distinct
returns-then-are_distinct c =
    let f = λ (p : Place). local_of (plain_place p) in
    arranged c.args.meta c.args.found.items (record { meta = c.args.meta; places = c.reverse.new.self }) c.in_ok-locals.locals.items refl c.reverse.ensures.items
    (c.in_ok-locals.ensures ∙ ap (map f) c.as_slice.ensures.value) (subst Apart c.as_slice-2.ensures.value (c.are_distinct.ensures.0 c.if-are_distinct.true))

pub returns : goal.returns
returns c =
    let f = λ (p : Place). local_of (plain_place p) in
    not_arranged c.args.found.items c.reverse.new.self.items c.in_ok-locals.locals.items c.reverse.ensures.items (c.in_ok-locals.ensures ∙ ap (map f) c.as_slice.ensures.value)
    (λ a. not_both (c.are_distinct.ensures.1 (subst Apart (sym c.as_slice-2.ensures.value) a)) c.if-are_distinct.false)
