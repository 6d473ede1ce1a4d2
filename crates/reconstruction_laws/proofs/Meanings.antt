-- What a name means is a constant, a local variable, or the head of an implicit variable, with its simple type.
use Rattle.std.specs.Prelude.{ℕ, zero, suc, ◌+◌, ◌≡◌, ◌<◌, ◌⊎◌, Bool, true, false, if◌then◌else◌, List, [], ◌∷◌, length, map, Option, Some, None, option_map, option_and_then, slice_get, refl}
use Rattle.std.specs.Option.{option_or}
use Rattle.std.proofs.Common.{ap, arith, inl, inr, subst, sym, ⊎_elim, ◌∙◌}
use Rattle.clf_syntax.specs.Word.{same_bytes}
use Rattle.clf_syntax.specs.declared.tree.Head.{Head}
use Rattle.clf_syntax.specs.declared.tree.Head.TheVariants.{Const, Var}
use Rattle.clf_sig.specs.Entry.{PlainClass, PlainSignature, class_at, constant_of, family_of, place_of, simple_types}
use Rattle.celf_sugar.specs.declared.plain.PName.{PName}
use Rattle.celf_names.specs.Names.{constant_named, constant_only}
use Rattle.celf_places.specs.Heads.{Typed, has_name, local_from}
use Rattle.celf_elaboration.specs.Fillings.{Scoped}
use Rattle.celf_elaboration.specs.Names.{ImplicitVariable, Meaning, all_arguments, as_local, constant_meaning, implicit_from, meaning}

pub the_meaning : {a b : Meaning} → Some a ≡ Some b → a ≡ b
the_meaning e = cc

the_typed : {a b : Typed} → Some a ≡ Some b → a ≡ b
the_typed e = cc

the_number : {a b : ℕ} → Some a ≡ Some b → a ≡ b
the_number e = cc

from_if : {A : Type 0} (b : Bool) (x y z : Option A) → (if b then x else y) ≡ z → (x ≡ z) ⊎ (y ≡ z)
from_if true x y z e = inl e
from_if false x y z e = inr e

from_or : (x y : Option Meaning) (m : Meaning) → option_or x y ≡ Some m → (x ≡ Some m) ⊎ (y ≡ Some m)
from_or None y m e = inr e
from_or (Some a) y m e = inl e

no_meaning : {m : Meaning} → None ≡ Some m → ⊥
no_meaning e = cc

no_number : {k : ℕ} → None ≡ Some k → ⊥
no_number e = cc

from_map : {A : Type 0} (f : A → Meaning) (x : Option A) (m : Meaning) → option_map f x ≡ Some m → (a : A) × (x ≡ Some a) × (m ≡ f a)
from_map f None m e = absurd (no_meaning e)
from_map f (Some a) m e = (a, λ i. Some a, sym (the_meaning e))

-- a constant that a name means stands in the signature
constant_below : (sig : PlainSignature) (k c : ℕ) → constant_only k (class_at sig k) ≡ Some c → c < length sig
constant_below sig k c e = at (class_at sig k) (λ x i. there sig k x i) e
  where
    no_class : {x : PlainClass} → None ≡ Some x → ⊥
    no_class e = cc

    there : (s : PlainSignature) (k : ℕ) (x : PlainClass) → class_at s k ≡ Some x → k < length s
    there [] k x i = absurd (no_class i)
    there (d ∷ s) zero x i = omega arith
    there (d ∷ s) (suc k) x i = let f = there s k x i in omega (arith, f)

    at : (o : Option PlainClass) → ((x : PlainClass) → o ≡ Some x → k < length sig) → constant_only k o ≡ Some c → c < length sig
    at None f i = absurd (no_number i)
    at (Some (family_of a)) f i = absurd (no_number i)
    at (Some (constant_of a)) f i = subst (λ v. v < length sig) (the_number i) (f (constant_of a) refl)

named_below : (sig : PlainSignature) (name : List ℕ) (c : ℕ) → constant_named sig name ≡ Some c → c < length sig
named_below sig name c e = at (place_of name sig) e
  where
    at : (o : Option ℕ) → option_and_then (λ k. constant_only k (class_at sig k)) o ≡ Some c → c < length sig
    at None i = absurd (no_number i)
    at (Some k) i = constant_below sig k c i

-- what a meaning is
pub data NamedHead (sig : PlainSignature) (heads : ℕ → Head) (vs : List ImplicitVariable) (ls : List Scoped) (m : Meaning) : Type 0 where
  names_constant : {c : ℕ} → m.head ≡ Const c → c < length sig → m.place ≡ slice_get (simple_types sig) c → NamedHead sig heads vs ls m
  names_local : {i : ℕ} {l : Scoped} → m.head ≡ Var i → i < length ls → slice_get ls i ≡ Some l → m.place ≡ l.place → NamedHead sig heads vs ls m
  names_implicit : {x : ℕ} {v : ImplicitVariable} → m.head ≡ heads x → slice_get vs x ≡ Some v → m.place ≡ Some v.type → NamedHead sig heads vs ls m

-- the local that is found, counted from the newest
record FoundLocal (k : ℕ) (ls : List Scoped) (t : Typed) : Type 0 where
  number : ℕ
  local : Scoped
  head : t.0 ≡ Var (k + number)
  below : number < length ls
  there : slice_get ls number ≡ Some local
  place : t.1 ≡ local.place

found_local : (k : ℕ) (name : List ℕ) (ls : List Scoped) (t : Typed) → local_from k name (map as_local ls) ≡ Some t → FoundLocal k ls t
found_local k name [] t e = absurd (no_typed e)
  where
    no_typed : {t : Typed} → None ≡ Some t → ⊥
    no_typed e = cc
found_local k name (l ∷ ls) t e = ⊎_elim
    (λ x. record { number = 0; local = l; head = ap (λ (t : Typed). t.0) (sym (the_typed x)) ∙ ap Var (none_more k); below = omega arith; there = refl; place = ap (λ (t : Typed). t.1) (sym (the_typed x)) })
    (λ x. let f = found_local (k + 1) name ls t x in
    record { number = suc f.number; local = f.local; head = f.head ∙ ap Var (one_more k f.number); below = higher f.number f.below; there = f.there; place = f.place })
    (from_if (has_name name (as_local l)) (Some (Var k, l.place)) (local_from (k + 1) name (map as_local ls)) (Some t) e)
  where
    none_more : (k : ℕ) → k ≡ k + 0
    none_more k = omega arith

    one_more : (k i : ℕ) → k + 1 + i ≡ k + suc i
    one_more k i = omega arith

    higher : (i : ℕ) → i < length ls → suc i < suc (length ls)
    higher i h = omega (arith, h)

record FoundImplicit (heads : ℕ → Head) (x : ℕ) (vs : List ImplicitVariable) (m : Meaning) : Type 0 where
  number : ℕ
  variable : ImplicitVariable
  head : m.head ≡ heads (x + number)
  there : slice_get vs number ≡ Some variable
  place : m.place ≡ Some variable.type

found_implicit : (heads : ℕ → Head) (x : ℕ) (name : List ℕ) (vs : List ImplicitVariable) (m : Meaning) → implicit_from heads x name vs ≡ Some m → FoundImplicit heads x vs m
found_implicit heads x name [] m e = absurd (no_meaning e)
found_implicit heads x name (v ∷ vs) m e = ⊎_elim
    (λ y. record { number = 0; variable = v; head = ap (λ (m : Meaning). m.head) (sym (the_meaning y)) ∙ ap heads (none_more x); there = refl; place = ap (λ (m : Meaning). m.place) (sym (the_meaning y)) })
    (λ y. let f = found_implicit heads (x + 1) name vs m y in
    record { number = suc f.number; variable = f.variable; head = f.head ∙ ap heads (one_more x f.number); there = f.there; place = f.place })
    (from_if (same_bytes name v.name) (Some (record { head = heads x; place = Some v.type; implicit = 0 })) (implicit_from heads (x + 1) name vs) (Some m) e)
  where
    none_more : (k : ℕ) → k ≡ k + 0
    none_more k = omega arith

    one_more : (k i : ℕ) → k + 1 + i ≡ k + suc i
    one_more k i = omega arith

module _ (sig : PlainSignature) (heads : ℕ → Head) (vs : List ImplicitVariable) (ls : List Scoped) (n : PName) (m : Meaning) where
  of_constant : (dollar : Bool) → option_map (constant_meaning sig dollar) (constant_named sig n.name) ≡ Some m → NamedHead sig heads vs ls m
  of_constant dollar e = let (c, i, j) = from_map (constant_meaning sig dollar) (constant_named sig n.name) m e in
      names_constant (ap (λ (m : Meaning). m.head) j) (named_below sig n.name c i) (ap (λ (m : Meaning). m.place) j)

  of_local : option_map all_arguments (local_from 0 n.name (map as_local ls)) ≡ Some m → NamedHead sig heads vs ls m
  of_local e = let (t, i, j) = from_map all_arguments (local_from 0 n.name (map as_local ls)) m e in
      let f = found_local 0 n.name ls t i in
      names_local (ap (λ (m : Meaning). m.head) j ∙ f.head ∙ ap Var (none_before f.number)) f.below f.there (ap (λ (m : Meaning). m.place) j ∙ f.place)
    where
      none_before : (i : ℕ) → 0 + i ≡ i
      none_before i = omega arith

  of_implicit : implicit_from heads 0 n.name vs ≡ Some m → NamedHead sig heads vs ls m
  of_implicit e = let f = found_implicit heads 0 n.name vs m e in names_implicit (f.head ∙ ap heads (none_before f.number)) f.there f.place
    where
      none_before : (i : ℕ) → 0 + i ≡ i
      none_before i = omega arith

  abbrev locally : Option Meaning
  locally = option_map all_arguments (local_from 0 n.name (map as_local ls))

  abbrev constant : Option Meaning
  constant = option_map (constant_meaning sig false) (constant_named sig n.name)

  abbrev implicit : Option Meaning
  implicit = implicit_from heads 0 n.name vs

  beyond : option_or constant implicit ≡ Some m → NamedHead sig heads vs ls m
  beyond e = ⊎_elim (λ z. of_constant false z) (λ z. of_implicit z) (from_or constant implicit m e)

  pub named_head : meaning sig heads vs ls n ≡ Some m → NamedHead sig heads vs ls m
  named_head e = ⊎_elim (λ x. of_constant true x) (λ x. ⊎_elim (λ y. of_local y) (λ y. beyond y) (from_or locally (option_or constant implicit) m x))
      (from_if n.dollar (option_map (constant_meaning sig true) (constant_named sig n.name)) (option_or locally (option_or constant implicit)) (Some m) e)
