-- Laws of types made of simple types, as statements; the functions of the crate's `laws` state them.
use Rattle.std.specs.Prelude.{ℕ, ◌+◌, ◌≡◌, List, map, Some}
use Rattle.std.specs.List.{All, slice_get}
use Rattle.clf_syntax.specs.declared.tree.Head.{Head}
use Rattle.clf_syntax.specs.TypeTree.{PlainType, SimpleType}
use Rattle.clf_syntax.specs.Simple.{Assignment, erase, SimplyFormed}
use Rattle.clf_sig.specs.Entry.{PlainSignature}
use Rattle.clf_sig.specs.Core.{PlainCore}
use Rattle.clf_rules.specs.WellFormed.{WellFormedSignature}
use Rattle.typing_laws.specs.SimpleTyping.{families_of}
use Rattle.subst_laws.specs.Environments.{Instantiation}
use Rattle.pattern_laws.specs.Equations.{Locals}
use Rattle.pattern_laws.specs.Instantiations.{Types}
use Rattle.pattern_laws.specs.Patterns.{HasFinalResult}
use Rattle.unify_laws.specs.Problems.{Grows}
use Rattle.unify_laws.specs.Progress.{Traced}
use Rattle.elaboration_laws.specs.ItemSetting.{ReadType}
use Rattle.celf_sugar.specs.PlainTree.{DesugaredBody}
use Rattle.celf_implicit.specs.Rounds.{determined}
use Rattle.celf_elaboration.specs.Fillings.{Fillings, types_of_new}
use Rattle.celf_elaboration.specs.Names.{ImplicitVariable}
use Rattle.celf_elaboration.specs.Items.{ReadsBody}
use Rattle.celf_filled.specs.TypedFrom.{indices_of, new_in}
use Rattle.filled_laws.specs.Families.{HasFamilies}
use Rattle.filled_laws.specs.FreshTypes.{types_from, new_in_each}

-- The result of a new metavariable is a family or a monad.
abbrev pub NewInAreFinal : Type 0
NewInAreFinal = (indices : ℕ → List SimpleType)
    → ((ls : Locals) (t : SimpleType) → All HasFinalResult (new_in indices ls t)) × ((ts : List SimpleType) → All HasFinalResult (new_in_each indices ts))

-- What is left of the types without their indices is what they are made of.
abbrev pub TypesHaveErasures : Type 0
TypesHaveErasures = (indices : ℕ → List SimpleType) (k : ℕ) (ts : List SimpleType) → map erase (types_from indices k ts) ≡ ts

-- The families in what is left of a simply formed type are those of the signature.
abbrev pub FormedTypesHaveIndices : Type 0
FormedTypesHaveIndices = (sig : PlainSignature) (g : Assignment) (a : PlainType) → SimplyFormed (families_of sig) g a → HasFamilies sig (erase a)

-- So are those in the simple types of implicit variables, where all these are known.
abbrev pub DeterminedHaveFamilies : Type 0
DeterminedHaveFamilies = (sig : PlainSignature) (body : DesugaredBody) (ts : List SimpleType) → WellFormedSignature sig
    → map (λ x. x.place) (determined sig body) ≡ map (λ t. Some t) ts → All (HasFamilies sig) ts

-- And so are those in the simple types of new metavariables: in types made of simple types, and in what is filled in;
abbrev pub NewHaveFamilies : Type 0
NewHaveFamilies = (sig : PlainSignature) → WellFormedSignature sig → (ts : List SimpleType) → All (HasFamilies sig) ts
    → All (HasFamilies sig) (new_in_each (indices_of sig) ts)

abbrev pub FillingsHaveFamilies : Type 0
FillingsHaveFamilies = (sig : PlainSignature) (heads : ℕ → Head) (vs : List ImplicitVariable) (body : DesugaredBody) (fs : Fillings) (core : PlainCore)
    → WellFormedSignature sig
    → All (λ v. HasFamilies sig v.type) vs → ReadsBody sig heads vs body fs core → All (HasFamilies sig) (types_of_new fs)

-- and in those of the metavariables that unification makes.
abbrev pub TracedHaveFamilies : Type 0
TracedHaveFamilies = (sig : PlainSignature) (start metas : Types) (given : Instantiation) → Traced start metas given → Grows start metas
    → ((m : ℕ) (a : SimpleType) → start m ≡ Some a → HasFamilies sig a) → (m : ℕ) (a : SimpleType) → metas m ≡ Some a → HasFamilies sig a

-- The metavariables from a number on have these simple types.
abbrev pub TypesFrom : Types → ℕ → List SimpleType → Type 0
TypesFrom metas k ts = (j : ℕ) (u : SimpleType) → slice_get ts j ≡ Some u → metas (k + j) ≡ Some u

-- The types made of simple types are such as may be read for implicit variables, whatever the types of the others.
abbrev pub FreshTypesAreRead : Type 0
FreshTypesAreRead = (sig : PlainSignature) (xs : List PlainType) (metas : Types) (k : ℕ) (ts : List SimpleType) → All (HasFamilies sig) ts
    → TypesFrom metas k (new_in_each (indices_of sig) ts)
    → (x : ℕ) (a : PlainType) → slice_get (types_from (indices_of sig) k ts) x ≡ Some a → ReadType sig xs metas a
