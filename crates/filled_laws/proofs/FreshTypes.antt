-- Types made of simple types may be read for implicit variables.
use Rattle.std.proofs.Common.{ap, arith, subst, ◌∙◌}
use Rattle.std.proofs.lemmas.List.Elements.{All-head, All-tail}
use Rattle.std.specs.List.{All, slice_get}
use Rattle.std.specs.Prelude.{List, Some, [], length, suc, zero, ℕ, ◌++◌, ◌+◌, ◌∷◌, ◌≡◌}
use Rattle.clf_syntax.proofs.Lists.{get-front}
use Rattle.clf_syntax.specs.Simple.{SimplyFormed}
use Rattle.clf_syntax.specs.TypeTree.{PlainType, SimpleType}
use Rattle.clf_sig.specs.Entry.{PlainSignature}
use Rattle.typing_laws.specs.SimpleTyping.{families_of}
use Rattle.metavars.proofs.Gets.{get-behind}
use Rattle.pattern_laws.specs.Instantiations.{Types, closed}
use Rattle.elaboration_laws.specs.ItemSetting.{ReadType, item_constants}
use Rattle.gathered_laws.proofs.Stores.{formed_type_has_no_variables}
use Rattle.celf_filled.proofs.FormedTypes.{made_types_are_formed}
use Rattle.celf_filled.specs.TypedFrom.{indices_of, new_in, typed_from}
use Rattle.filled_laws.specs.FreshTypes.{new_in_each, types_from}
use Rattle.filled_laws.specs.Families.{HasFamilies}
use Rattle.filled_laws.specs.Laws.{FreshTypesAreRead, TypesFrom}

in_front : (metas : Types) (k : ℕ) (ts us : List SimpleType) → TypesFrom metas k (ts ++ us) → TypesFrom metas k ts
in_front metas k ts us n j u e = n j u (get-front ts us j u e)

behind : (metas : Types) (k : ℕ) (ts us : List SimpleType) → TypesFrom metas k (ts ++ us) → TypesFrom metas (k + length ts) us
behind metas k ts us n j u e = ap metas (moved k (length ts) j) ∙ n (length ts + j) u (get-behind ts us j ∙ e)
  where
    moved : (k i j : ℕ) → k + i + j ≡ k + (i + j)
    moved k i j = omega arith

the_type : {a b : PlainType} → Some a ≡ Some b → a ≡ b
the_type e = cc

module _ (sig : PlainSignature) (xs : List PlainType) (metas : Types) where
  one_read : (k : ℕ) (t : SimpleType) → HasFamilies sig t → TypesFrom metas k (new_in (indices_of sig) [] t)
      → ReadType sig xs metas (typed_from (indices_of sig) k [] t)
  one_read k t h n = record { formed = formed; closed_type = formed_type_has_no_variables (families_of sig) (item_constants sig xs) metas (typed_from (indices_of sig) k [] t) formed }
    where
      formed : SimplyFormed (families_of sig) (closed (item_constants sig xs) metas) (typed_from (indices_of sig) k [] t)
      formed = made_types_are_formed (families_of sig) (indices_of sig) (closed (item_constants sig xs) metas) k [] t h n (λ i u e. absurd (nowhere i u e))
        where
          nowhere : (i : ℕ) (u : SimpleType) → slice_get [] i ≡ Some u → ⊥
          nowhere i u e = cc

  each_read : (k : ℕ) (ts : List SimpleType) → All (HasFamilies sig) ts → TypesFrom metas k (new_in_each (indices_of sig) ts)
      → (x : ℕ) (a : PlainType) → slice_get (types_from (indices_of sig) k ts) x ≡ Some a → ReadType sig xs metas a
  each_read k [] h n x a e = absurd (cc)
  each_read k (t ∷ ts) h n zero a e = subst (ReadType sig xs metas) (the_type e)
      (one_read k t (All-head (HasFamilies sig) t ts h) (in_front metas k (new_in (indices_of sig) [] t) (new_in_each (indices_of sig) ts) n))
  each_read k (t ∷ ts) h n (suc x) a e = each_read (k + length (new_in (indices_of sig) [] t)) ts (All-tail (HasFamilies sig) t ts h)
      (behind metas k (new_in (indices_of sig) [] t) (new_in_each (indices_of sig) ts) n) x a e

pub fresh_types_are_read : FreshTypesAreRead
fresh_types_are_read sig xs metas k ts h n x a e = each_read sig xs metas k ts h n x a e
