-- Laws of what is found of a declaration, and of what clashes, as statements; the functions of the crate's `laws` state them.
--
-- The equations are solved over the constants of a store: those of the signature, where <T> is the simple type of a family, and past them the implicit variables.
use Rattle.std.specs.Prelude.{ℕ, List, [], slice_get}
use Rattle.clf_syntax.specs.Tree.{PlainObject}
use Rattle.clf_syntax.specs.TypeTree.{PlainType, PlainKind, SimpleType}
use Rattle.use_contexts.specs.Context.{Context}
use Rattle.hered_subst.specs.Substitution.{SubstitutedType, SubstitutedKind}
use Rattle.subst_laws.specs.Environments.{Instantiation, instant}
use Rattle.clf_sig.specs.Entry.{PlainSignature}
use Rattle.clf_rules.specs.WellFormed.{WellFormedType, WellFormedKind, WellFormedSignature}
use Rattle.pattern_laws.specs.Instantiations.{Types}
use Rattle.pattern_laws.specs.Equations.{Equation}
use Rattle.unify_laws.specs.Problems.{Problem}
use Rattle.reach_laws.specs.Unified.{Unified, Clashed, IsPutIn}
use Rattle.gathering.specs.Items.{TypeGathers, KindGathers}
use Rattle.elaboration_laws.specs.General.{fresh_problem}
use Rattle.elaboration_laws.specs.InFront.{ElaboratesType}
use Rattle.elaboration_laws.specs.ItemSetting.{item_setting}
use Rattle.elaboration_laws.specs.Laws.{IsInstanceOf}
use Rattle.celf_sugar.specs.PlainTree.{DesugaredType, DesugaredTelescope}
use Rattle.celf_elaboration.specs.Names.{TypedVariable, types_read}
use Rattle.reconstruction_laws.specs.Laws.{KindIsInstanceOf}
use Rattle.reconstruction_laws.specs.Trees.{ElaboratesKind}
use Rattle.gathered_laws.specs.Formed.{store_constants}
use Rattle.conform_laws.specs.Laws.{ConstantTree, FamilyTree, HasNoElaboration, FamilyHasNoElaboration}

abbrev pub constants_of : PlainSignature → List TypedVariable → Types
constants_of sig vs = slice_get (store_constants sig (types_read vs))

-- The tree of the declaration of a constant over a well-formed signature, with what is gathered of it.
pub record ConstantGathers (sig : PlainSignature) (vs : List TypedVariable) (metas : List SimpleType) (tree : PlainType) (q : List Equation) : Type 0 where
  pub signature : WellFormedSignature sig
  pub written : DesugaredType
  pub is_tree : ConstantTree sig vs metas written tree
  pub gathers : TypeGathers sig (item_setting sig (types_read vs) (slice_get metas)) [] [] tree q

-- the same of a family
pub record FamilyGathers (sig : PlainSignature) (vs : List TypedVariable) (metas : List SimpleType) (tree : PlainKind) (q : List Equation) : Type 0 where
  pub signature : WellFormedSignature sig
  pub written : DesugaredTelescope
  pub is_tree : FamilyTree sig vs metas written tree
  pub gathers : KindGathers sig (item_setting sig (types_read vs) (slice_get metas)) [] [] tree q

-- Where what is gathered of a declaration clashes, it has no well-formed elaboration.
abbrev pub ClashHasNoElaboration : Type 0
ClashHasNoElaboration = (sig : PlainSignature) (vs : List TypedVariable) (metas : List SimpleType) (tree : PlainType) (q : List Equation) → ConstantGathers sig vs metas tree q
    → (now : Problem) (under : ℕ) (left right : PlainObject) → Clashed (constants_of sig vs) (fresh_problem (slice_get metas) q) now under left right
    → HasNoElaboration sig vs (slice_get metas) tree

abbrev pub ClashHasNoFamilyElaboration : Type 0
ClashHasNoFamilyElaboration = (sig : PlainSignature) (vs : List TypedVariable) (metas : List SimpleType) (tree : PlainKind) (q : List Equation) → FamilyGathers sig vs metas tree q
    → (now : Problem) (under : ℕ) (left right : PlainObject) → Clashed (constants_of sig vs) (fresh_problem (slice_get metas) q) now under left right
    → FamilyHasNoElaboration sig vs (slice_get metas) tree

-- Where what is gathered is solved, or comes down to equations that are left, and s is all solutions put in: each well-formed elaboration of the declaration is an
-- instance of the tree with s put in.
abbrev pub FoundIsMostGeneral : Type 0
FoundIsMostGeneral = (sig : PlainSignature) (vs : List TypedVariable) (metas : List SimpleType) (tree : PlainType) (q : List Equation) → ConstantGathers sig vs metas tree q
    → (now : Problem) (left : List Equation) → Unified (constants_of sig vs) (fresh_problem (slice_get metas) q) now left
    → (s : Instantiation) → IsPutIn (constants_of sig vs) now.metas now.given s → (core : PlainType) → SubstitutedType (instant s) tree core
    → (front : Context) (b : PlainType) (elaboration : ElaboratesType sig (types_read vs) (slice_get metas) tree front b) → WellFormedType sig front b
    → IsInstanceOf sig (types_read vs) now.metas elaboration.parameters elaboration.put core b

abbrev pub FoundFamilyIsMostGeneral : Type 0
FoundFamilyIsMostGeneral = (sig : PlainSignature) (vs : List TypedVariable) (metas : List SimpleType) (tree : PlainKind) (q : List Equation) → FamilyGathers sig vs metas tree q
    → (now : Problem) (left : List Equation) → Unified (constants_of sig vs) (fresh_problem (slice_get metas) q) now left
    → (s : Instantiation) → IsPutIn (constants_of sig vs) now.metas now.given s → (core : PlainKind) → SubstitutedKind (instant s) tree core
    → (front : Context) (k : PlainKind) (elaboration : ElaboratesKind sig (types_read vs) (slice_get metas) tree front k) → WellFormedKind sig front k
    → KindIsInstanceOf sig (types_read vs) now.metas elaboration.parameters elaboration.put core k
