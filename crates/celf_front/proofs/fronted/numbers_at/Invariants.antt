use Rattle.std.proofs.Common.{◌≡◌, take}
use Rattle.celf_front.specs.Fronted.{at_places}
use Rattle.celf_front.proofs.fronted.numbers_at.Given as goal

abbrev pub invariant-loop-place : goal.invariant-loop-place
invariant-loop-place l = l.numbers ≡ at_places l.binders (take l.place-index l.places)
