-- What has been found goes before what the factors that are left have.
use Rattle.std.proofs.Common.{◌≡◌, ◌≤◌}
use Rattle.celf_surface.specs.declared.surface.SType.{size-SType}
use Rattle.celf_surface.specs.Surface.{surface}
use Rattle.celf_sugar.specs.Earliest.{sooner, earliest}
use Rattle.celf_sugar.specs.Faults.{start, type_redexes}
use Rattle.celf_sugar.proofs.redex.+type_redex.Given as goal

abbrev pub invariant-type_redex_in_factors-loop-rest : goal.invariant-type_redex_in_factors-loop-rest
invariant-type_redex_in_factors-loop-rest l =
    (size-SType l.rest ≤ size-SType l.fn.factors) ×
    (sooner start l.found (earliest start (type_redexes (surface l.rest))) ≡ earliest start (type_redexes (surface l.fn.factors)))
