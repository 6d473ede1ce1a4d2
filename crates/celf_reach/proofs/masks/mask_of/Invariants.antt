use Rattle.std.proofs.Common.{◌≡◌, take, map}
use Rattle.celf_constraints.specs.Reading.{plain_place}
use Rattle.celf_reach.specs.Masks.{is_kept}
use Rattle.celf_reach.proofs.masks.mask_of.Given as goal

abbrev pub invariant-loop-place : goal.invariant-loop-place
invariant-loop-place l = l.mask.items ≡ map (λ p. is_kept l.marks l.depth (plain_place p)) (take l.place-index l.places)
