-- The simple types of implicit variables, where all are known; and one that is not.
use Rattle.std.proofs.Common.{◌≡◌, Bool, true, false, ◌&&◌, refl, sym, ap, ◌∙◌, Option, Some, None, List, [], ◌∷◌, map, Contains, unwrap_or}
use Rattle.std.proofs.lemmas.List.Elements.{Contains-append_left, Contains-append_right, Contains-push}
use Rattle.clf_syntax.specs.TypeTree.{SimpleType, simple_top}
use Rattle.celf_implicit.specs.declared.variable.Implicit.{Implicit}
use Rattle.celf_implicit.specs.Answers.{plain_implicit}
use Rattle.celf_implicit.specs.Variables.{PlainImplicit}
use Rattle.celf_places.specs.Places.{Place}
use Rattle.celf_reconstruct.specs.Known.{simple_or_unit, is_place, is_known, are_known}

pub both_true : (a b : Bool) → a && b ≡ true → (a ≡ true) × (b ≡ true)
both_true true true e = (refl, refl)
both_true true false e = absurd (cc)
both_true false b e = absurd (cc)

pub known-place : (p : Place) → is_place p ≡ true → p ≡ Some (unwrap_or p simple_top)
known-place None e = absurd (cc)
known-place (Some t) e = refl

abbrev pub place_of : PlainImplicit → Place
place_of x = x.place

pub places-known : (xs : List Implicit) → are_known xs ≡ true → map place_of (map plain_implicit xs) ≡ map Some (map simple_or_unit (map plain_implicit xs))
places-known [] e = refl
places-known (x ∷ xs) e = let h = both_true (is_known x) (are_known xs) e in both (known-place (plain_implicit x).place h.0) (places-known xs h.1)
  where
    both : {a b : Place} {as_ bs : List Place} → a ≡ b → as_ ≡ bs → a ∷ as_ ≡ b ∷ bs
    both p q = cc

-- The simple type of one of the variables is not known.
abbrev pub HasUntypedOne : List PlainImplicit → Type 0
HasUntypedOne ys = (y : PlainImplicit) × Contains ys y × (y.place ≡ None)

later : (y : PlainImplicit) (ys : List PlainImplicit) → HasUntypedOne ys → HasUntypedOne (y ∷ ys)
later y ys h = let (z, there, none) = h in (z, Contains-append_right (y ∷ []) ys z there, none)

no_place : (p : Place) → is_place p ≡ false → p ≡ None
no_place None e = refl
no_place (Some t) e = absurd (cc)

first-untyped : (x : Implicit) (xs : List Implicit) (b : Bool) → is_known x ≡ b → b && are_known xs ≡ false → (are_known xs ≡ false → HasUntypedOne (map plain_implicit xs)) → HasUntypedOne (map plain_implicit (x ∷ xs))
first-untyped x xs true h f rest = later (plain_implicit x) (map plain_implicit xs) (rest f)
first-untyped x xs false h f rest =
    (plain_implicit x, Contains-append_left (plain_implicit x ∷ []) (map plain_implicit xs) (plain_implicit x) (Contains-push [] (plain_implicit x)), no_place (plain_implicit x).place h)

pub one-untyped : (xs : List Implicit) → are_known xs ≡ false → HasUntypedOne (map plain_implicit xs)
one-untyped [] e = absurd (cc)
one-untyped (x ∷ xs) e = first-untyped x xs (is_known x) refl e (one-untyped xs)
