-- Options with a value, put together.
use Rattle.std.proofs.Common.{◌≡◌, ap, ◌∙◌, Option, Some, option_map, option_and_then}
use Rattle.celf_places.specs.Combined.{combined}

pub mapped : {A B : Type 0} (f : A → B) {o : Option A} {x : A} → o ≡ Some x → option_map f o ≡ Some (f x)
mapped f e = ap (option_map f) e

pub chained : {A B : Type 0} (f : A → Option B) {o : Option A} {x : A} {y : Option B} → o ≡ Some x → f x ≡ y → option_and_then f o ≡ y
chained f e h = ap (option_and_then f) e ∙ h

pub combined_of : {A B C : Type 0} (f : A → B → C) {o : Option A} {p : Option B} {x : A} {y : B} → o ≡ Some x → p ≡ Some y → combined f o p ≡ Some (f x y)
combined_of f {p = p} {x = x} e h = ap (λ o. combined f o p) e ∙ ap (combined f (Some x)) h

pub the_same : {A : Type 0} {x y : A} → Some x ≡ Some y → x ≡ y
the_same e = cc
