use Rattle.std.proofs.Common.{ap, map, ◌∙◌}
use Rattle.celf_constraints.specs.declared.places.Place.{Place}
use Rattle.celf_constraints.specs.Ended.{local_of}
use Rattle.celf_constraints.specs.Reading.{plain_place, plain_places}
use Rattle.celf_constraints.proofs.Growing.{both_maps, ends_of}
use Rattle.celf_constraints.proofs.ways.ends.Goals as goal

pub returns-clause-ends : goal.returns-clause-ends
returns-clause-ends c =
    let f = λ (p : Place). local_of (plain_place p) in
    ends_of (λ held. held.items) c.grow.result c.as_slice-3.result.now c.as_slice-4.result.now (plain_places c.args.places.now) (plain_places c.args.others.now)
    (c.as_slice-3.ensures.value ∙ c.in_ok-from.ensures ∙ ap (map f) c.as_slice.ensures.value ∙ both_maps c.args.places.now.places.items)
    (c.as_slice-4.ensures.value ∙ c.in_ok-to.ensures ∙ ap (map f) c.as_slice-2.ensures.value ∙ both_maps c.args.others.now.places.items) c.grow.ensures.ends
