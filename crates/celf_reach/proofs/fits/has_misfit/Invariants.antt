use Rattle.std.proofs.Common.{◌≡◌, drop}
use Rattle.std.specs.List.{list_any}
use Rattle.celf_reach.specs.Misfits.{misfits}
use Rattle.celf_reach.proofs.fits.has_misfit.Given as goal

abbrev pub invariant-loop-place : goal.invariant-loop-place
invariant-loop-place l = list_any misfits (drop l.place-index l.place-items) ≡ list_any misfits l.place-items
