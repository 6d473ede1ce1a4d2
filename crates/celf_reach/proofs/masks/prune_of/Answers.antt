use Rattle.std.specs.Prelude.{ℕ, ◌≡◌, Bool, List, map, not, refl}
use Rattle.std.specs.List.{list_any}
use Rattle.std.proofs.Common.{ap, sym, ◌∙◌}
use Rattle.std.proofs.lemmas.Simd.{map-map}
use Rattle.celf_constraints.specs.declared.places.Place.{Place}
use Rattle.celf_constraints.specs.Reading.{plain_place}
use Rattle.celf_reach.specs.Masks.{is_kept}
use Rattle.celf_reach.proofs.masks.prune_of.Goals as goal

-- the mask of the places read
mask_there : (bs : List Bool) (d : ℕ) (mask : List Bool) (read places : List Place) → mask ≡ map (λ p. is_kept bs d (plain_place p)) read → read ≡ places → mask ≡ map (is_kept bs d) (map plain_place places)
mask_there bs d mask read places e f = e ∙ ap (map (λ (p : Place). is_kept bs d (plain_place p))) f ∙ sym (map-map (is_kept bs d) plain_place places)

-- what is left out of it
left_out : (mask read : List Bool) (b c : Bool) → b ≡ list_any not read → read ≡ mask → b ≡ c → list_any not mask ≡ c
left_out mask read b c e f h = ap (list_any not) (sym f) ∙ sym e ∙ h

pub returns-then-leaves_one : goal.returns-then-leaves_one
returns-then-leaves_one c = (
  refl,
  mask_there c.args.marks.now c.args.depth c.in_ok-mask.mask.items c.as_slice.result.now c.args.places.now.places.items c.in_ok-mask.ensures c.as_slice.ensures.value,
  left_out c.in_ok-mask.mask.items c.as_slice-2.result.now c.leaves_one.result _ c.leaves_one.ensures c.as_slice-2.ensures.value c.if-leaves_one.true,
)

pub returns-else-leaves_one : goal.returns-else-leaves_one
returns-else-leaves_one c =
    ap (list_any not) (sym (mask_there c.args.marks.now c.args.depth c.in_ok-mask.mask.items c.as_slice.result.now c.args.places.now.places.items c.in_ok-mask.ensures c.as_slice.ensures.value))
    ∙ left_out c.in_ok-mask.mask.items c.as_slice-2.result.now c.leaves_one.result _ c.leaves_one.ensures c.as_slice-2.ensures.value c.if-leaves_one.false
