-- Options that have a value, taken apart.
use Rattle.std.proofs.Common.{◌≡◌, refl, Option, Some, None, option_map, option_and_then}
use Rattle.celf_places.specs.Combined.{combined}

pub option_map-some : {A B : Type 0} (f : A → B) (o : Option A) (y : B) → option_map f o ≡ Some y → (x : A) × (o ≡ Some x) × (f x ≡ y)
option_map-some f None y h = absurd (cc)
option_map-some f (Some x) y h = (x, refl, cc)

pub option_and_then-some : {A B : Type 0} (f : A → Option B) (o : Option A) (y : B) → option_and_then f o ≡ Some y → (x : A) × (o ≡ Some x) × (f x ≡ Some y)
option_and_then-some f None y h = absurd (cc)
option_and_then-some f (Some x) y h = (x, refl, h)

pub combined-some : {A B C : Type 0} (f : A → B → C) (o : Option A) (p : Option B) (c : C) → combined f o p ≡ Some c
    → (a : A) × (b : B) × (o ≡ Some a) × (p ≡ Some b) × (f a b ≡ c)
combined-some f None p c h = absurd (cc)
combined-some f (Some a) None c h = absurd (cc)
combined-some f (Some a) (Some b) c h = (a, b, refl, refl, cc)
