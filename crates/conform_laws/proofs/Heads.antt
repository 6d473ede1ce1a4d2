-- The simple types of heads as the walk looks them up are those of an item's setting.
use Rattle.std.proofs.Common.{ap, arith, sym, ◌∙◌}
use Rattle.std.specs.List.{slice_get}
use Rattle.std.specs.Option.{option_map}
use Rattle.std.specs.Prelude.{Bool, List, None, Some, [], false, if◌then◌else◌, length, map, nat_lt, refl, suc, true, zero, ℕ, ◌++◌, ◌+◌, ◌-◌, ◌<◌, ◌∷◌, ◌≡◌, ◌≤◌}
use Rattle.std.proofs.lemmas.Option.{slice_get-map}
use Rattle.clf_syntax.proofs.RenamingLaws.{ext}
use Rattle.clf_syntax.specs.Simple.{erase}
use Rattle.clf_syntax.specs.TypeTree.{PlainType, SimpleType}
use Rattle.clf_syntax.specs.declared.tree.Head.{Head}
use Rattle.clf_syntax.specs.declared.tree.Head.TheVariants.{Const, Meta, Var}
use Rattle.clf_sig.specs.Entry.{PlainClass, PlainSignature, constant_of, constant_type, family_of, simple_class, simple_types, type_in}
use Rattle.pattern_laws.specs.Instantiations.{closed}
use Rattle.elaboration_laws.specs.ItemSetting.{item_constants}
use Rattle.celf_conform.specs.Known.{heads_in, is_family, is_family_class}
use Rattle.conform_laws.specs.Laws.{item_known}

of_class : (x : PlainClass) → (if is_family_class (Some x) then None else Some (simple_class x)) ≡ option_map erase (type_in x)
of_class (family_of k) = refl
of_class (constant_of a) = refl

-- a place of the signature
within : (sig : PlainSignature) (ys : List SimpleType) (c : ℕ) → c < length sig → (if is_family sig c then None else slice_get (simple_types sig ++ ys) c) ≡ option_map erase (constant_type sig c)
within [] ys c h = absurd (omega (arith, h))
within (d ∷ sig) ys zero h = of_class d.1.class
within (d ∷ sig) ys (suc c) h = within sig ys c (omega (arith, h))

-- a place past it
beyond : (sig : PlainSignature) (ys : List SimpleType) (c x : ℕ) → c ≡ length sig + x → (if is_family sig c then None else slice_get (simple_types sig ++ ys) c) ≡ slice_get ys x
beyond [] ys c x e = ap (λ i. slice_get ys i) (let n : c ≡ x = omega (arith, e) in n)
beyond (d ∷ sig) ys zero x e = absurd (omega (arith, e))
beyond (d ∷ sig) ys (suc c) x e = beyond sig ys c x (omega (arith, e))

pub constants_same : (sig : PlainSignature) (xs : List PlainType) (c : ℕ) → (if is_family sig c then None else slice_get (simple_types sig ++ map erase xs) c) ≡ item_constants sig xs c
constants_same sig xs c = at (nat_lt c (length sig)) refl
  where
    below : nat_lt c (length sig) ≡ true → c < length sig
    below e = grind arith

    above : nat_lt c (length sig) ≡ false → length sig ≤ c
    above e = grind arith

    at : (b : Bool) → nat_lt c (length sig) ≡ b → (if is_family sig c then None else slice_get (simple_types sig ++ map erase xs) c) ≡ item_constants sig xs c
    at true e = within sig (map erase xs) c (below e) ∙ ap (λ b. option_map erase (if b then constant_type sig c else slice_get xs (c - length sig))) (sym e)
    at false e = let h = above e in beyond sig (map erase xs) c (c - length sig) (omega (arith, h)) ∙ slice_get-map erase xs (c - length sig)
        ∙ ap (λ b. option_map erase (if b then constant_type sig c else slice_get xs (c - length sig))) (sym e)

pub heads_same : (sig : PlainSignature) (xs : List PlainType) (metas : List SimpleType) → heads_in (item_known sig xs metas) [] ≡ closed (item_constants sig xs) (slice_get metas)
heads_same sig xs metas = ext (λ h. at h)
  where
    at : (h : Head) → heads_in (item_known sig xs metas) [] h ≡ closed (item_constants sig xs) (slice_get metas) h
    at (Const c) = constants_same sig xs c
    at (Var i) = refl
    at (Meta m) = refl
