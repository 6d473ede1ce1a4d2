-- Laws of what conforms to simple types, as statements; the functions of the crate's `laws` state them.
use Rattle.std.specs.Prelude.{ℕ, ◌++◌, List, [], map, Some, None, slice_get}
use Rattle.clf_syntax.specs.TypeTree.{PlainType, PlainKind, SimpleType}
use Rattle.clf_syntax.specs.Simple.{erase}
use Rattle.clf_sig.specs.Entry.{PlainSignature, PlainEntry, constant_of, family_of, simple_types}
use Rattle.clf_sig.specs.Core.{PlainCore, declares}
use Rattle.clf_rules.specs.WellFormed.{WellFormedSignature, WellFormedEntry}
use Rattle.typing_laws.specs.SimpleTyping.{families_of}
use Rattle.pattern_laws.specs.Equations.{Equation}
use Rattle.pattern_laws.specs.Instantiations.{Types}
use Rattle.elaboration_laws.specs.ItemSetting.{item_setting, ReadTypes}
use Rattle.celf_sugar.specs.PlainTree.{DesugaredType, DesugaredTelescope}
use Rattle.celf_explicit.specs.Explicit.{entry_of}
use Rattle.celf_elaboration.specs.Fillings.{Fillings}
use Rattle.celf_elaboration.specs.Names.{TypedVariable, types_read}
use Rattle.celf_elaboration.specs.Items.{CoreGathers}
use Rattle.celf_elaboration.specs.Declarations.{IsTreeOf, ElaboratesDeclaration}
use Rattle.reconstruction_laws.specs.Trees.{HasNewTypes, IsKindTreeOf, ElaboratesFamily}
use Rattle.celf_conform.specs.declared.misfit.Misfit.{Misfit}
use Rattle.celf_conform.specs.Known.{PlainKnown, known_over, heads_in}
use Rattle.celf_conform.specs.Fits.{CoreFits}
use Rattle.celf_conform.specs.Conforms.{JudgesCore}

-- What is known of an item: the simple types of the signature's constants, then those of its implicit variables, and those of its metavariables.
abbrev pub item_known : PlainSignature → List PlainType → List SimpleType → PlainKnown
item_known sig xs metas = known_over sig (simple_types sig ++ map erase xs) metas

-- Of a core that conforms to simple types something is gathered.
abbrev pub FitsGathers : Type 0
FitsGathers = (sig : PlainSignature) (xs : List PlainType) (metas : List SimpleType) → WellFormedSignature sig → ReadTypes sig xs (slice_get metas)
    → (core : PlainCore) → CoreFits (families_of sig) (heads_in (item_known sig xs metas) []) core
    → (q : List Equation) × CoreGathers sig (item_setting sig xs (slice_get metas)) core q

-- So where nothing is gathered, what judges the core finds a misfit.
abbrev pub GathersNothingMisfits : Type 0
GathersNothingMisfits = (sig : PlainSignature) (xs : List PlainType) (metas : List SimpleType) → WellFormedSignature sig → ReadTypes sig xs (slice_get metas)
    → (core : PlainCore) → ((q : List Equation) → CoreGathers sig (item_setting sig xs (slice_get metas)) core q → ⊥)
    → JudgesCore (item_known sig xs metas) core None → ⊥

-- The tree of the declaration of a constant, with the simple types of its metavariables and types that are read for its implicit variables.
pub record ConstantTree (sig : PlainSignature) (vs : List TypedVariable) (metas : List SimpleType) (written : DesugaredType) (tree : PlainType) : Type 0 where
  pub fillings : Fillings
  pub is_tree : IsTreeOf sig vs written fillings tree
  pub have_types : HasNewTypes (slice_get metas) fillings
  pub read : ReadTypes sig (types_read vs) (slice_get metas)

-- the same of a family, where the tree is that of its arguments
pub record FamilyTree (sig : PlainSignature) (vs : List TypedVariable) (metas : List SimpleType) (written : DesugaredTelescope) (tree : PlainKind) : Type 0 where
  pub fillings : Fillings
  pub is_tree : IsKindTreeOf sig vs written fillings tree
  pub have_types : HasNewTypes (slice_get metas) fillings
  pub read : ReadTypes sig (types_read vs) (slice_get metas)

-- No elaboration of the declaration is well formed.
abbrev pub HasNoElaboration : PlainSignature → List TypedVariable → Types → PlainType → Type 0
HasNoElaboration sig vs metas tree = (n : ℕ) (e : PlainEntry) → ElaboratesDeclaration sig vs n metas tree e → WellFormedEntry sig e → ⊥

abbrev pub FamilyHasNoElaboration : PlainSignature → List TypedVariable → Types → PlainKind → Type 0
FamilyHasNoElaboration sig vs metas tree = (n : ℕ) (e : PlainEntry) → ElaboratesFamily sig vs n metas tree e → WellFormedEntry sig e → ⊥

-- Where one elaboration of a declaration is well formed, its tree conforms. So what has a misfit has no well-formed elaboration.
abbrev pub MisfitHasNoElaboration : Type 0
MisfitHasNoElaboration = (sig : PlainSignature) (vs : List TypedVariable) (metas : List SimpleType) (written : DesugaredType) (tree : PlainType) → ConstantTree sig vs metas written tree
    → (name : List ℕ) (n : ℕ) (w : Misfit) → JudgesCore (item_known sig (types_read vs) metas) (declares name (entry_of n (constant_of tree))) (Some w)
    → HasNoElaboration sig vs (slice_get metas) tree

abbrev pub MisfitHasNoFamilyElaboration : Type 0
MisfitHasNoFamilyElaboration = (sig : PlainSignature) (vs : List TypedVariable) (metas : List SimpleType) (written : DesugaredTelescope) (tree : PlainKind) → FamilyTree sig vs metas written tree
    → (name : List ℕ) (n : ℕ) (w : Misfit) → JudgesCore (item_known sig (types_read vs) metas) (declares name (entry_of n (family_of tree))) (Some w)
    → FamilyHasNoElaboration sig vs (slice_get metas) tree
