use Rattle.std.proofs.Common.{◌≡◌, ◌&&◌, drop}
use Rattle.std.specs.List.{list_any}
use Rattle.clf_syntax.specs.Occurs.{occurs}
use Rattle.clf_syntax.specs.Plain.{plain_obj}
use Rattle.celf_reach.specs.Misfits.{misfits}
use Rattle.celf_reach.proofs.fits.misfit_occurs.Given as goal

abbrev pub invariant-loop-place : goal.invariant-loop-place
invariant-loop-place l = list_any (λ p. misfits p && occurs p.local (plain_obj l.obj)) (drop l.place-index l.place-items) ≡ list_any (λ p. misfits p && occurs p.local (plain_obj l.obj)) l.place-items
