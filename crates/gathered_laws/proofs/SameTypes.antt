-- What is typed over the constants of an item is typed over those of a store, and the other way round.
use Rattle.std.proofs.Common.{ap, arith, inl, inr, sym, ⊎_elim, ◌∙◌}
use Rattle.std.proofs.lemmas.List.{length-map}
use Rattle.std.proofs.lemmas.Option.{slice_get-map}
use Rattle.std.specs.List.{slice_get}
use Rattle.std.specs.Option.{option_map}
use Rattle.std.specs.Prelude.{Bool, List, None, Option, Some, [], false, if◌then◌else◌, length, map, nat_lt, refl, suc, true, zero, ℕ, ◌++◌, ◌-◌, ◌<◌, ◌∷◌, ◌≡◌, ◌≤◌, ◌⊎◌}
use Rattle.clf_syntax.specs.Simple.{Assignment, Families, SimplyFormed, SimplyFormedKind, SimplyFormedTelescope, SimplyTypedEach, erase, extended}
use Rattle.clf_syntax.specs.Tree.{PlainObject}
use Rattle.clf_syntax.specs.TypeTree.{PlainKind, PlainTelescope, PlainType, SimpleType, binding, both, end, family, function, monad, simple_top, top}
use Rattle.clf_syntax.specs.declared.tree.Head.{Head}
use Rattle.clf_syntax.specs.declared.tree.Head.TheVariants.{Const, Meta, Var}
use Rattle.clf_sig.specs.Core.{PlainCore, checks, declares, equates, queries, traces}
use Rattle.clf_sig.specs.Entry.{PlainClass, PlainSignature, constant_of, constant_type, family_of, simple_class, simple_types, type_in}
use Rattle.pattern_laws.specs.Equations.{Equation, Locals, TypedEquations, scoped}
use Rattle.pattern_laws.specs.Instantiations.{Types, closed}
use Rattle.elaboration_laws.specs.ItemSetting.{item_constants}
use Rattle.celf_gather.proofs.Assigned.{typed_nearly}
use Rattle.gathered_laws.specs.Formed.{ClassIsFormed, CoreIsFormed, store_constants}
use Rattle.gathered_laws.specs.Laws.{StoreTypesTheSame}

-- The second assignment has the types of the first but <T>, which no object has a head of.
abbrev Nearly : Assignment → Assignment → Type 0
Nearly b c = (h : Head) (t : SimpleType) → b h ≡ Some t → (c h ≡ Some t) ⊎ (t ≡ simple_top)

extended_nearly : (d : SimpleType) (b c : Assignment) → Nearly b c → Nearly (extended d b) (extended d c)
extended_nearly d b c n (Const x) t e = n (Const x) t e
extended_nearly d b c n (Var zero) t e = inl e
extended_nearly d b c n (Var (suc i)) t e = n (Var i) t e
extended_nearly d b c n (Meta m) t e = n (Meta m) t e

scoped_nearly : (ls : Locals) (b c : Assignment) → Nearly b c → Nearly (scoped ls b) (scoped ls c)
scoped_nearly [] b c n = n
scoped_nearly (l ∷ ls) b c n = extended_nearly l.1 (scoped ls b) (scoped ls c) (scoped_nearly ls b c n)

each_nearly : (os : List PlainObject) (ts : List SimpleType) (b c : Assignment) → Nearly b c → SimplyTypedEach b os ts → SimplyTypedEach c os ts
each_nearly [] [] b c n p = tt
each_nearly (o ∷ os) (t ∷ ts) b c n p = (typed_nearly o b c t n p.0, each_nearly os ts b c n p.1)
each_nearly [] (t ∷ ts) b c n p = absurd p
each_nearly (o ∷ os) [] b c n p = absurd p

module _ (arguments : Families) where
  mutual
    type_nearly : (a : PlainType) (b c : Assignment) → Nearly b c → SimplyFormed arguments b a → SimplyFormed arguments c a
    type_nearly (family f ns) b c n p = let (ts, e, q) = p in (ts, e, each_nearly ns ts b c n q)
    type_nearly (function m a d) b c n p = (type_nearly a b c n p.0, type_nearly d (extended (erase a) b) (extended (erase a) c) (extended_nearly (erase a) b c n) p.1)
    type_nearly (both a d) b c n p = (type_nearly a b c n p.0, type_nearly d b c n p.1)
    type_nearly top b c n p = tt
    type_nearly (monad s) b c n p = telescope_nearly s b c n p

    telescope_nearly : (s : PlainTelescope) (b c : Assignment) → Nearly b c → SimplyFormedTelescope arguments b s → SimplyFormedTelescope arguments c s
    telescope_nearly end b c n p = tt
    telescope_nearly (binding m a s) b c n p = (type_nearly a b c n p.0, telescope_nearly s (extended (erase a) b) (extended (erase a) c) (extended_nearly (erase a) b c n) p.1)

  kind_nearly : (k : PlainKind) (b c : Assignment) → Nearly b c → SimplyFormedKind arguments b k → SimplyFormedKind arguments c k
  kind_nearly [] b c n p = tt
  kind_nearly (a ∷ k) b c n p = (type_nearly a b c n p.0, kind_nearly k (extended (erase a) b) (extended (erase a) c) (extended_nearly (erase a) b c n) p.1)

  class_nearly : (d : PlainClass) (b c : Assignment) → Nearly b c → ClassIsFormed arguments b d → ClassIsFormed arguments c d
  class_nearly (family_of k) b c n p = kind_nearly k b c n p
  class_nearly (constant_of a) b c n p = type_nearly a b c n p

  core_nearly : (d : PlainCore) (b c : Assignment) → Nearly b c → CoreIsFormed arguments b d → CoreIsFormed arguments c d
  core_nearly (declares name e) b c n p = class_nearly e.class b c n p
  core_nearly (queries a) b c n p = type_nearly a b c n p
  core_nearly (traces s) b c n p = telescope_nearly s b c n p
  core_nearly (equates l r a) b c n p = (type_nearly a b c n p.0, typed_nearly l b c (erase a) n p.1, typed_nearly r b c (erase a) n p.2)
  core_nearly (checks o a) b c n p = (type_nearly a b c n p.0, typed_nearly o b c (erase a) n p.1)

equations_nearly : (b c metas : Types) → Nearly (closed b metas) (closed c metas) → (q : List Equation) → TypedEquations b metas q → TypedEquations c metas q
equations_nearly b c metas n [] p = tt
equations_nearly b c metas n (e ∷ q) p =
    let k = scoped_nearly e.locals (closed b metas) (closed c metas) n in (
      (typed_nearly e.left (scoped e.locals (closed b metas)) (scoped e.locals (closed c metas)) e.type k p.0.0, typed_nearly e.right (scoped e.locals (closed b metas)) (scoped e.locals (closed c metas)) e.type k p.0.1),
      equations_nearly b c metas n q p.1,
    )

-- ---- the constants

-- The store has the same simple type at a number, or <T> where the item has none.
abbrev pub IsSame : Option SimpleType → Option SimpleType → Type 0
IsSame x y = (x ≡ y) ⊎ ((x ≡ Some simple_top) × (y ≡ None))

class_same : (d : PlainClass) → IsSame (Some (simple_class d)) (option_map erase (type_in d))
class_same (family_of k) = inr (refl, refl)
class_same (constant_of a) = inl refl

pub constant_same : (sig : PlainSignature) (c : ℕ) → IsSame (slice_get (simple_types sig) c) (option_map erase (constant_type sig c))
constant_same [] c = inl refl
constant_same (d ∷ sig) zero = class_same d.1.class
constant_same (d ∷ sig) (suc c) = constant_same sig c

get_first : {X : Type 0} (xs ys : List X) (i : ℕ) → i < length xs → slice_get (xs ++ ys) i ≡ slice_get xs i
get_first [] ys i l = absurd (omega arith)
get_first (x ∷ xs) ys zero l = refl
get_first (x ∷ xs) ys (suc i) l = get_first xs ys i (omega arith)

get_second : {X : Type 0} (xs ys : List X) (i : ℕ) → length xs ≤ i → slice_get (xs ++ ys) i ≡ slice_get ys (i - length xs)
get_second [] ys i l = ap (slice_get ys) (none i)
  where
    none : (i : ℕ) → i ≡ i - 0
    none i = omega arith
get_second (x ∷ xs) ys zero l = absurd (omega arith)
get_second (x ∷ xs) ys (suc i) l = get_second xs ys i (omega arith) ∙ ap (slice_get ys) (less i (length xs))
  where
    less : (i n : ℕ) → i - n ≡ suc i - suc n
    less i n = omega arith

-- the simple type at a number that is that of a constant of the signature or not
abbrev given_at : PlainSignature → List PlainType → ℕ → Bool → Option SimpleType
given_at sig xs c b = option_map erase (if b then constant_type sig c else slice_get xs (c - length sig))

same_at : (sig : PlainSignature) (xs : List PlainType) (c : ℕ) → IsSame (slice_get (store_constants sig xs) c) (item_constants sig xs c)
same_at sig xs c = of_place (nat_lt c (length sig)) refl
  where
    moved : (x y z w : Option SimpleType) → x ≡ y → w ≡ z → IsSame y z → IsSame x w
    moved x y z w e f p = ⊎_elim (λ g. inl (e ∙ g ∙ sym f)) (λ g. inr (e ∙ g.0, f ∙ g.1)) p

    count : length (simple_types sig) ≡ length sig
    count = length-map sig (λ e. simple_class e.1.class)

    of_place : (b : Bool) → nat_lt c (length sig) ≡ b → IsSame (slice_get (store_constants sig xs) c) (item_constants sig xs c)
    of_place true l = let i : c < length sig = grind (arith, l) in let n = count in
        moved (slice_get (store_constants sig xs) c) (slice_get (simple_types sig) c) (option_map erase (constant_type sig c)) (item_constants sig xs c)
        (get_first (simple_types sig) (map erase xs) c (omega (arith, i, n))) (ap (given_at sig xs c) l) (constant_same sig c)
    of_place false l = let i : length sig ≤ c = grind (arith, l) in let n = count in
        inl (get_second (simple_types sig) (map erase xs) c (omega (arith, i, n)) ∙ ap (λ k. slice_get (map erase xs) (c - k)) count ∙ slice_get-map erase xs (c - length sig) ∙ sym (ap (given_at sig xs c) l))

module _ (sig : PlainSignature) (xs : List PlainType) (metas : Types) where
  abbrev of_item : Assignment
  of_item = closed (item_constants sig xs) metas

  abbrev of_store : Assignment
  of_store = closed (slice_get (store_constants sig xs)) metas

  to_store : Nearly of_item of_store
  to_store (Const c) t e = ⊎_elim (λ i. inl (i ∙ e)) (λ i. absurd (nothing (sym i.1 ∙ e))) (same_at sig xs c)
    where
      nothing : None ≡ Some t → ⊥
      nothing e = cc
  to_store (Var i) t e = inl e
  to_store (Meta m) t e = inl e

  to_item : Nearly of_store of_item
  to_item (Const c) t e = ⊎_elim (λ i. inl (sym i ∙ e)) (λ i. inr (the_type (sym e ∙ i.0))) (same_at sig xs c)
    where
      the_type : {a b : SimpleType} → Some a ≡ Some b → a ≡ b
      the_type e = cc
  to_item (Var i) t e = inl e
  to_item (Meta m) t e = inl e

pub store_types_the_same : StoreTypesTheSame
store_types_the_same sig xs metas = record {
  equations = λ q. (
    equations_nearly (item_constants sig xs) (slice_get (store_constants sig xs)) metas (to_store sig xs metas) q,
    equations_nearly (slice_get (store_constants sig xs)) (item_constants sig xs) metas (to_item sig xs metas) q,
  );
  types = λ arguments a. (type_nearly arguments a (of_item sig xs metas) (of_store sig xs metas) (to_store sig xs metas), type_nearly arguments a (of_store sig xs metas) (of_item sig xs metas) (to_item sig xs metas));
  cores = λ arguments c. (core_nearly arguments c (of_item sig xs metas) (of_store sig xs metas) (to_store sig xs metas), core_nearly arguments c (of_store sig xs metas) (of_item sig xs metas) (to_item sig xs metas));
}
