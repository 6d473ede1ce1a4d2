-- Implicit variables with the types that are made for them.
use Rattle.std.proofs.Common.{ℕ, ◌≡◌, Bool, true, refl, sym, ap, ◌∙◌, Option, None, Some, List, [], ◌∷◌, map}
use Rattle.clf_syntax.specs.TypeTree.{PlainType, SimpleType}
use Rattle.clf_syntax.specs.Simple.{erase}
use Rattle.celf_places.specs.Places.{Place}
use Rattle.celf_implicit.specs.declared.variable.Implicit.{Implicit}
use Rattle.celf_implicit.specs.Answers.{plain_implicit}
use Rattle.celf_elaboration.specs.Names.{ImplicitVariable, TypedVariable, with_simple_type, types_read}
use Rattle.celf_filled.specs.Scopes.{plain_named, with_known_type}
use Rattle.celf_reconstruct.specs.Trees.{determined_name, read_name}
use Rattle.celf_reconstruct.specs.Known.{simple_or_unit, is_known, are_known}
use Rattle.celf_reconstruct.proofs.Families.{both_true, known-place}

-- variables with these types
abbrev pub with_types : List ImplicitVariable → List PlainType → List TypedVariable
with_types [] as_ = []
with_types (v ∷ vs) [] = []
with_types (v ∷ vs) (a ∷ as_) = record { name = v.name; type = a } ∷ with_types vs as_

abbrev pub simple_of : ImplicitVariable → SimpleType
simple_of v = v.type

-- The types are those of the variables.
abbrev pub AreTypesOf : List PlainType → List ImplicitVariable → Type 0
AreTypesOf as_ vs = map erase as_ ≡ map simple_of vs

first-type : (a : PlainType) (as_ : List PlainType) (v : ImplicitVariable) (vs : List ImplicitVariable) → AreTypesOf (a ∷ as_) (v ∷ vs) → (erase a ≡ v.type) × AreTypesOf as_ vs
first-type a as_ v vs e = (cc, cc)

pub types-of-typed : (vs : List ImplicitVariable) (as_ : List PlainType) → AreTypesOf as_ vs → types_read (with_types vs as_) ≡ as_
types-of-typed [] [] e = refl
types-of-typed [] (a ∷ as_) e = absurd (cc)
types-of-typed (v ∷ vs) [] e = absurd (cc)
types-of-typed (v ∷ vs) (a ∷ as_) e = ap (λ l. a ∷ l) (types-of-typed vs as_ (first-type a as_ v vs e).1)

pub simple-of-typed : (vs : List ImplicitVariable) (as_ : List PlainType) → AreTypesOf as_ vs → map with_simple_type (with_types vs as_) ≡ vs
simple-of-typed [] as_ e = refl
simple-of-typed (v ∷ vs) [] e = absurd (cc)
simple-of-typed (v ∷ vs) (a ∷ as_) e = let one = first-type a as_ v vs e in rw (one.0, simple-of-typed vs as_ one.1) refl

pub names-read : (vs : List ImplicitVariable) (as_ : List PlainType) → AreTypesOf as_ vs → map read_name (with_types vs as_) ≡ map with_known_type vs
names-read [] as_ e = refl
names-read (v ∷ vs) [] e = absurd (cc)
names-read (v ∷ vs) (a ∷ as_) e = let one = first-type a as_ v vs e in rw (one.0, names-read vs as_ one.1) refl

-- ---- variables in memory

abbrev pub known_variable : Implicit → ImplicitVariable
known_variable x = record { name = x.name; type = simple_or_unit (plain_implicit x) }

pub simples-of-known : (xs : List Implicit) → map simple_of (map known_variable xs) ≡ map simple_or_unit (map plain_implicit xs)
simples-of-known [] = refl
simples-of-known (x ∷ xs) = ap (λ l. simple_or_unit (plain_implicit x) ∷ l) (simples-of-known xs)

pub names-of-known : (xs : List Implicit) → map determined_name (map plain_implicit xs) ≡ map plain_named xs
names-of-known [] = refl
names-of-known (x ∷ xs) = ap (λ l. plain_named x ∷ l) (names-of-known xs)

pub are-known : (xs : List Implicit) → are_known xs ≡ true → map plain_named xs ≡ map with_known_type (map known_variable xs)
are-known [] e = refl
are-known (x ∷ xs) e =
    let h = both_true (is_known x) (are_known xs) e in
    both (ap (λ (p : Place). (x.name, p)) (known-place (plain_implicit x).place h.0)) (are-known xs h.1)
  where
    both : {a b : List ℕ × Place} {as_ bs : List (List ℕ × Place)} → a ≡ b → as_ ≡ bs → a ∷ as_ ≡ b ∷ bs
    both e f = cc
