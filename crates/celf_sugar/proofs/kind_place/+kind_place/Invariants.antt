-- What has been found goes before what the factors that are left have.
use Rattle.std.proofs.Common.{◌≡◌, false, ◌≤◌}
use Rattle.celf_surface.specs.declared.surface.SType.{size-SType}
use Rattle.celf_surface.specs.Surface.{surface}
use Rattle.celf_sugar.specs.Earliest.{sooner, earliest}
use Rattle.celf_sugar.specs.Faults.{start, kind_places}
use Rattle.celf_sugar.proofs.kind_place.+kind_place.Given as goal

abbrev pub invariant-kind_place_in_factors-loop-rest : goal.invariant-kind_place_in_factors-loop-rest
invariant-kind_place_in_factors-loop-rest l =
    (size-SType l.rest ≤ size-SType l.fn.factors) ×
    (sooner start l.found (earliest start (kind_places false (surface l.rest))) ≡ earliest start (kind_places false (surface l.fn.factors)))
