-- What has been found goes before what the factors that are left have.
use Rattle.std.proofs.Common.{◌≡◌, true, ◌≤◌}
use Rattle.celf_surface.specs.declared.surface.SType.{size-SType}
use Rattle.celf_surface.specs.Surface.{surface}
use Rattle.celf_sugar.specs.Earliest.{sooner, earliest}
use Rattle.celf_sugar.specs.Faults.{start, not_async}
use Rattle.celf_sugar.proofs.not_async.+not_async.Given as goal

abbrev pub invariant-not_async_in_factors-loop-rest : goal.invariant-not_async_in_factors-loop-rest
invariant-not_async_in_factors-loop-rest l =
    (size-SType l.rest ≤ size-SType l.fn.factors) ×
    (sooner start l.found (earliest start (not_async true (surface l.rest))) ≡ earliest start (not_async true (surface l.fn.factors)))
