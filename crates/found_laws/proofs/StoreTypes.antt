-- What is typed over the constants of an item and some parameters is typed over those of a store, and the other way round: no object has a head of the type <T>.
use Rattle.std.proofs.Common.{ap, inl, inr, sym, ◌∙◌}
use Rattle.std.specs.List.{slice_get}
use Rattle.std.specs.Prelude.{Bool, List, None, Option, Some, false, if◌then◌else◌, map, refl, suc, true, zero, ℕ, ◌++◌, ◌∷◌, [], ◌≡◌, ◌⊎◌}
use Rattle.clf_syntax.specs.Simple.{erase}
use Rattle.clf_syntax.specs.TypeTree.{PlainType, SimpleType, simple_top}
use Rattle.clf_syntax.specs.declared.tree.Head.{Head}
use Rattle.clf_syntax.specs.declared.tree.Head.TheVariants.{Const, Meta, Var}
use Rattle.subst_laws.specs.Environments.{Instantiation}
use Rattle.clf_sig.specs.Entry.{PlainClass, PlainSignature, constant_of, family_of, simple_class, simple_types}
use Rattle.pattern_laws.specs.Instantiations.{Instantiates, Types, over}
use Rattle.elaboration_laws.specs.ItemSetting.{item_constants}
use Rattle.celf_gather.proofs.Assigned.{typed_nearly}
use Rattle.celf_conform.specs.Known.{is_family, is_family_class}
use Rattle.gathered_laws.specs.Formed.{store_constants}
use Rattle.conform_laws.proofs.Heads.{constants_same}

-- a family has the type <T> in a store
class_at_top : (c : PlainClass) (t : SimpleType) → is_family_class (Some c) ≡ true → Some (simple_class c) ≡ Some t → t ≡ simple_top
class_at_top (family_of k) t e q = let i : simple_top ≡ t = cc in sym i
class_at_top (constant_of a) t e q = absurd (cc)

family_at_top : (sig : PlainSignature) (ys : List SimpleType) (c : ℕ) (t : SimpleType) → is_family sig c ≡ true → slice_get (simple_types sig ++ ys) c ≡ Some t → t ≡ simple_top
family_at_top [] ys c t e q = absurd (cc)
family_at_top (d ∷ sig) ys zero t e q = class_at_top d.1.class t e q
family_at_top (d ∷ sig) ys (suc c) t e q = family_at_top sig ys c t e q

module _ (sig : PlainSignature) (xs : List PlainType) where
  abbrev store : Types
  store = slice_get (store_constants sig xs)

  unless_family : (c : ℕ) (b : Bool) → is_family sig c ≡ b → (if b then None else slice_get (simple_types sig ++ map erase xs) c) ≡ item_constants sig xs c
  unless_family c b e = ap (λ v. if v then None else slice_get (simple_types sig ++ map erase xs) c) (sym e) ∙ constants_same sig xs c

  to_store : (c : ℕ) (t : SimpleType) → item_constants sig xs c ≡ Some t → store c ≡ Some t
  to_store c t e = at (is_family sig c) refl
    where
      nothing : (x : Option SimpleType) → None ≡ x → x ≡ Some t → ⊥
      nothing x e f = cc

      at : (b : Bool) → is_family sig c ≡ b → store c ≡ Some t
      at true i = absurd (nothing (item_constants sig xs c) (unless_family c true i) e)
      at false i = unless_family c false i ∙ e

  to_item : (c : ℕ) (t : SimpleType) → store c ≡ Some t → (item_constants sig xs c ≡ Some t) ⊎ (t ≡ simple_top)
  to_item c t e = at (is_family sig c) refl
    where
      at : (b : Bool) → is_family sig c ≡ b → (item_constants sig xs c ≡ Some t) ⊎ (t ≡ simple_top)
      at true i = inr (family_at_top sig (map erase xs) c t i e)
      at false i = inl (sym (unless_family c false i) ∙ e)

  over_store : (parameters : Types) (h : Head) (t : SimpleType) → over (item_constants sig xs) parameters h ≡ Some t → (over store parameters h ≡ Some t) ⊎ (t ≡ simple_top)
  over_store parameters (Const c) t e = inl (to_store c t e)
  over_store parameters (Var i) t e = inl e
  over_store parameters (Meta m) t e = inl e

  over_item : (parameters : Types) (h : Head) (t : SimpleType) → over store parameters h ≡ Some t → (over (item_constants sig xs) parameters h ≡ Some t) ⊎ (t ≡ simple_top)
  over_item parameters (Const c) t e = to_item c t e
  over_item parameters (Var i) t e = inl e
  over_item parameters (Meta m) t e = inl e

  pub instantiates_store : (metas parameters : Types) (t : Instantiation) → Instantiates (item_constants sig xs) metas parameters t → Instantiates store metas parameters t
  instantiates_store metas parameters t p m a e = let (o, i, f) = p m a e in (o, i, typed_nearly o (over (item_constants sig xs) parameters) (over store parameters) a (over_store parameters) f)

  pub instantiates_item : (metas parameters : Types) (t : Instantiation) → Instantiates store metas parameters t → Instantiates (item_constants sig xs) metas parameters t
  instantiates_item metas parameters t p m a e = let (o, i, f) = p m a e in (o, i, typed_nearly o (over store parameters) (over (item_constants sig xs) parameters) a (over_item parameters) f)
