-- The families in what is left of a simply formed type are those of the signature.
use Rattle.std.proofs.Common.{ap}
use Rattle.std.specs.Option.{option_map}
use Rattle.std.specs.Prelude.{List, None, Option, Some, [], map, refl, ℕ, ◌∷◌, ◌≡◌}
use Rattle.clf_syntax.specs.Simple.{Assignment, SimplyFormed, SimplyFormedTelescope, erase, erase_telescope, extended}
use Rattle.clf_syntax.specs.TypeTree.{PlainKind, PlainTelescope, PlainType, SimpleType, binding, both, end, family, function, monad, top}
use Rattle.clf_sig.specs.Entry.{PlainSignature, family_kind}
use Rattle.typing_laws.specs.SimpleTyping.{families_of}
use Rattle.celf_places.specs.Heads.{argument_entries, argument_entry}
use Rattle.celf_filled.specs.FormedTypes.{EachHasIndices}
use Rattle.celf_filled.specs.TypedFrom.{indices_of, type_of_entry}
use Rattle.filled_laws.specs.Families.{HasFamilies}
use Rattle.filled_laws.specs.Laws.{FormedTypesHaveIndices}

erased : (k : PlainKind) → map erase k ≡ map type_of_entry (map argument_entry k)
erased [] = refl
erased (a ∷ k) = ap (λ ts. erase a ∷ ts) (erased k)

-- the simple types of a family's indices are those of its kind
pub has_indices : (sig : PlainSignature) (f : ℕ) (ts : List SimpleType) → families_of sig f ≡ Some ts → families_of sig f ≡ Some (indices_of sig f)
has_indices sig f ts e = of_kind (family_kind sig f) e
  where
    of_kind : (k : Option PlainKind) → option_map (map erase) k ≡ Some ts → option_map (map erase) k ≡ Some (map type_of_entry (argument_entries k))
    of_kind None e = absurd (cc)
    of_kind (Some k) e = ap (λ us. Some us) (erased k)

module _ (sig : PlainSignature) where
  mutual
    pub in_type : (g : Assignment) (a : PlainType) → SimplyFormed (families_of sig) g a → HasFamilies sig (erase a)
    in_type g (family f ns) p = let (ts, e, q) = p in has_indices sig f ts e
    in_type g (function m a b) p = (in_type g a p.0, in_type (extended (erase a) g) b p.1)
    in_type g (both a b) p = (in_type g a p.0, in_type g b p.1)
    in_type g top p = tt
    in_type g (monad s) p = in_telescope g s p

    in_telescope : (g : Assignment) (s : PlainTelescope) → SimplyFormedTelescope (families_of sig) g s
        → EachHasIndices (families_of sig) (indices_of sig) (erase_telescope s)
    in_telescope g end p = tt
    in_telescope g (binding m a s) p = (in_type g a p.0, in_telescope (extended (erase a) g) s p.1)

pub formed_types_have_indices : FormedTypesHaveIndices
formed_types_have_indices sig g a p = in_type sig g a p
