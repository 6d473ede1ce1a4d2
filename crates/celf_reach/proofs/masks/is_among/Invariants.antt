use Rattle.std.proofs.Common.{◌≡◌, drop}
use Rattle.std.specs.List.{list_any}
use Rattle.celf_constraints.specs.Reading.{plain_place}
use Rattle.celf_reach.specs.Masks.{has_local}
use Rattle.celf_reach.proofs.masks.is_among.Given as goal

abbrev pub invariant-loop-place : goal.invariant-loop-place
invariant-loop-place l = list_any (λ p. has_local l.local (plain_place p)) (drop l.place-index l.places) ≡ list_any (λ p. has_local l.local (plain_place p)) l.places
