-- Laws of the pieces of reconstruction, as statements; the functions of the crate's `laws` state them.
use Rattle.std.specs.Prelude.{ℕ, ◌+◌, ◌≡◌, true, List, [], length, Some, None}
use Rattle.clf_syntax.specs.declared.tree.Head.{Head}
use Rattle.clf_syntax.specs.Tree.{PlainObject}
use Rattle.clf_syntax.specs.TypeTree.{PlainType, PlainTelescope, PlainKind, SimpleType}
use Rattle.clf_syntax.specs.Simple.{SimplyFormed, SimplyFormedKind}
use Rattle.use_contexts.specs.Context.{Context}
use Rattle.typing_laws.specs.SimpleTyping.{families_of}
use Rattle.subst_laws.specs.Environments.{Instantiation, instant}
use Rattle.pattern_laws.specs.Instantiations.{Types, closed, Instantiates}
use Rattle.pattern_laws.specs.Equations.{Equation, SolvesEach, TypedEquations}
use Rattle.joined_laws.specs.JoinedTypes.{JoinedKind}
use Rattle.unify_laws.specs.Problems.{Problem, KeepsSolutions, Grows}
use Rattle.reach_laws.specs.Unified.{IsPutIn}
use Rattle.gathering.specs.Items.{KindGathers}
use Rattle.hered_subst.specs.Substitution.{Environment, under, Substituted, SubstitutedType, SubstitutedTelescope, SubstitutedKind}
use Rattle.clf_sig.specs.Entry.{PlainSignature, constant_of, family_of}
use Rattle.clf_sig.specs.Core.{PlainCore}
use Rattle.celf_sugar.specs.PlainTree.{DesugaredObject, DesugaredType, DesugaredTelescope, DesugaredBody, DesugaredItem}
use Rattle.celf_places.specs.Places.{Place}
use Rattle.clf_rules.specs.WellFormed.{WellFormedType, WellFormedKind, WellFormedSignature}
use Rattle.elaboration_laws.specs.ItemSetting.{item_constants, item_setting, ReadTypes}
use Rattle.elaboration_laws.specs.General.{fresh_problem}
use Rattle.elaboration_laws.specs.InFront.{ElaboratesType}
use Rattle.celf_elaboration.specs.Fillings.{Fillings, Scoped}
use Rattle.celf_elaboration.specs.Names.{ImplicitVariable, TypedVariable, types_read}
use Rattle.celf_elaboration.specs.Items.{ReadsBody}
use Rattle.celf_elaboration.specs.Declarations.{IsTreeOf, with_binders, ElaboratesDeclaration}
use Rattle.celf_unknown.specs.Unknown.{first_unknown}
use Rattle.celf_explicit.specs.Explicit.{entry_of, explicit}
use Rattle.celf_explicit.specs.Explicitness.{is_explicit}
use Rattle.celf_elaboration.specs.Readings.{ReadsObject, ReadsType, ReadsTelescope}
use Rattle.reconstruction_laws.specs.Becoming.{FillingsBecome, KeepsNamed}
use Rattle.reconstruction_laws.specs.Fronts.{IsAllPutIn, NothingLeft, TypesBecome, FrontsBinders, AllPersistent}
use Rattle.reconstruction_laws.specs.Trees.{HasNewTypes, IsKindTreeOf, ElaboratesKind, kind_with_binders, ElaboratesFamily}

-- Two readings of one text differ by their fillings alone: where the environment makes the fillings of one those of the other, it makes the one tree the other.
pub record ReadingsDifferByFillings (sig : PlainSignature) (heads : ℕ → Head) (vs : List ImplicitVariable) (s : Environment) (ls : List Scoped) : Type 0 where
  pub objects : (t : Place) (o : DesugaredObject) (fs gs : Fillings) (m n : PlainObject) → ReadsObject sig heads vs ls t o fs m → ReadsObject sig heads vs ls t o gs n
      → FillingsBecome s fs gs → Substituted (under (length ls) s) m n
  pub types : (w : DesugaredType) (fs gs : Fillings) (a b : PlainType) → ReadsType sig heads vs ls w fs a → ReadsType sig heads vs ls w gs b
      → FillingsBecome s fs gs → SubstitutedType (under (length ls) s) a b
  pub telescopes : (w : DesugaredTelescope) (fs gs : Fillings) (a b : PlainTelescope) → ReadsTelescope sig heads vs ls w fs a → ReadsTelescope sig heads vs ls w gs b
      → FillingsBecome s fs gs → SubstitutedTelescope (under (length ls) s) a b

abbrev pub ReadingsBecome : Type 0
ReadingsBecome = (sig : PlainSignature) (heads : ℕ → Head) (vs : List ImplicitVariable) (s : Environment) → KeepsNamed heads s → (ls : List Scoped)
    → ReadingsDifferByFillings sig heads vs s ls

-- Where one elaboration of a declaration is well formed its tree is simply formed. So an item whose tree does not conform to simple types has no well-formed
-- elaboration, and what is gathered of a tree is typed wherever there is something to find.
abbrev pub TreeConforms : Type 0
TreeConforms = (sig : PlainSignature) (vs : List TypedVariable) (metas : Types) (written : DesugaredType) (fillings : Fillings) (tree : PlainType)
    → IsTreeOf sig vs written fillings tree → HasNewTypes metas fillings → ReadTypes sig (types_read vs) metas
    → (front : Context) (b : PlainType) → ElaboratesType sig (types_read vs) metas tree front b → WellFormedType sig front b
    → SimplyFormed (families_of sig) (closed (item_constants sig (types_read vs)) metas) tree

abbrev pub KindTreeConforms : Type 0
KindTreeConforms = (sig : PlainSignature) (vs : List TypedVariable) (metas : Types) (written : DesugaredTelescope) (fillings : Fillings) (tree : PlainKind)
    → IsKindTreeOf sig vs written fillings tree → HasNewTypes metas fillings → ReadTypes sig (types_read vs) metas
    → (front : Context) (k : PlainKind) → ElaboratesKind sig (types_read vs) metas tree front k → WellFormedKind sig front k
    → SimplyFormedKind (families_of sig) (closed (item_constants sig (types_read vs)) metas) tree

-- What is found of a declaration is one of its elaborations, once variables are put in front for its implicit variables and for what is left unnamed.
abbrev pub DeclarationIsElaboration : Type 0
DeclarationIsElaboration = (sig : PlainSignature) (vs : List TypedVariable) (metas : Types) (tree : PlainType) → ReadTypes sig (types_read vs) metas
    → SimplyFormed (families_of sig) (closed (item_constants sig (types_read vs)) metas) tree
    → (unnamed : List SimpleType) (final : Instantiation) (types : List PlainType) → IsAllPutIn sig (types_read vs) metas unnamed final types
    → (front : Context) (e : Environment) (binder_of : ℕ → ℕ) → FrontsBinders (length sig) types front e binder_of → AllPersistent front
    → (core elaborated : PlainType) → SubstitutedType (instant final) tree core → SubstitutedType e core elaborated → (written_implicit : ℕ)
    → ElaboratesDeclaration sig vs written_implicit metas tree (entry_of (length front + written_implicit) (constant_of (with_binders front elaborated)))

-- The same of the declaration of a family.
abbrev pub FamilyIsElaboration : Type 0
FamilyIsElaboration = (sig : PlainSignature) (vs : List TypedVariable) (metas : Types) (tree : PlainKind) → ReadTypes sig (types_read vs) metas
    → SimplyFormedKind (families_of sig) (closed (item_constants sig (types_read vs)) metas) tree
    → (unnamed : List SimpleType) (final : Instantiation) (types : List PlainType) → IsAllPutIn sig (types_read vs) metas unnamed final types
    → (front : Context) (e : Environment) (binder_of : ℕ → ℕ) → FrontsBinders (length sig) types front e binder_of → AllPersistent front
    → (core elaborated : PlainKind) → SubstitutedKind (instant final) tree core → SubstitutedKind e core elaborated → (written_implicit : ℕ)
    → ElaboratesFamily sig vs written_implicit metas tree (entry_of (length front + written_implicit) (family_of (kind_with_binders front elaborated)))

-- Where unification leaves nothing, its solutions all put in are what a declaration without unnamed binders needs.
abbrev pub SolvedIsAllPutIn : Type 0
SolvedIsAllPutIn = (sig : PlainSignature) (xs : List PlainType) (metas after : Types) (given s : Instantiation) → Grows metas after → IsPutIn (item_constants sig xs) after given s
    → NothingLeft metas after given s → (types : List PlainType) → TypesBecome s xs types → IsAllPutIn sig xs metas [] s types

-- The tree of a family's arguments with what is gathered of it.
pub record KindIsGathered (sig : PlainSignature) (xs : List PlainType) (metas : Types) (tree : PlainKind) (q : List Equation) : Type 0 where
  pub read : ReadTypes sig xs metas
  pub formed : SimplyFormedKind (families_of sig) (closed (item_constants sig xs) metas) tree
  pub typed : TypedEquations (item_constants sig xs) metas q
  pub gathers : KindGathers sig (item_setting sig xs metas) [] [] tree q

-- A well-formed elaboration of a family solves what is gathered of its tree.
abbrev pub FamilyElaborationSolves : Type 0
FamilyElaborationSolves = (sig : PlainSignature) (xs : List PlainType) (metas : Types) (tree : PlainKind) (q : List Equation) → WellFormedSignature sig → KindIsGathered sig xs metas tree q
    → (front : Context) (k : PlainKind) (elaboration : ElaboratesKind sig xs metas tree front k) → WellFormedKind sig front k → SolvesEach (instant elaboration.fills) q

-- An elaboration is an instance of a core: other objects, filled in for the core's metavariables over the same parameters, give a kind that is joined with it
-- when the same variables are put in front.
pub record KindIsInstanceOf (sig : PlainSignature) (xs : List PlainType) (metas parameters : Types) (put : Environment) (core k : PlainKind) : Type 0 where
  pub fills : Instantiation
  pub filled : PlainKind
  pub elaborated : PlainKind
  pub instantiates : Instantiates (item_constants sig xs) metas parameters fills
  pub filling : SubstitutedKind (instant fills) core filled
  pub putting : SubstitutedKind put filled elaborated
  pub joined : JoinedKind k elaborated

-- Each well-formed elaboration of a family is an instance of the core, which is the tree with all solutions put in that unification found for its equations.
abbrev pub FamilyElaborationsAreInstances : Type 0
FamilyElaborationsAreInstances = (sig : PlainSignature) (xs : List PlainType) (metas : Types) (tree core : PlainKind) (q : List Equation) → WellFormedSignature sig → KindIsGathered sig xs metas tree q
    → (now : Problem) (s : Instantiation) → KeepsSolutions (item_constants sig xs) (fresh_problem metas q) now → Grows metas now.metas
    → IsPutIn (item_constants sig xs) now.metas now.given s → SubstitutedKind (instant s) tree core
    → (front : Context) (k : PlainKind) (elaboration : ElaboratesKind sig xs metas tree front k) → WellFormedKind sig front k
    → KindIsInstanceOf sig xs now.metas elaboration.parameters elaboration.put core k

-- The body is read so, without fillings, and in no other way.
pub record IsOneReading (sig : PlainSignature) (heads : ℕ → Head) (vs : List ImplicitVariable) (body : DesugaredBody) (core : PlainCore) : Type 0 where
  pub reads : ReadsBody sig heads vs body [] core
  pub only : (fillings : Fillings) (d : PlainCore) → ReadsBody sig heads vs body fillings d → (fillings ≡ []) × (d ≡ core)

-- The core of an explicit item is its one reading with fillings, whatever implicit variables there are: so one relation reads what is explicit and what is not.
abbrev pub ExplicitIsFilled : Type 0
ExplicitIsFilled = (sig : PlainSignature) (heads : ℕ → Head) (vs : List ImplicitVariable) (item : DesugaredItem) (core : PlainCore)
    → explicit sig item ≡ Some core → IsOneReading sig heads vs item.body core

-- And back, where each name of the item has a meaning and it is explicit. Without that there is no way back: a neutral that is dropped is read whatever
-- stands in it.
abbrev pub FilledIsExplicit : Type 0
FilledIsExplicit = (sig : PlainSignature) (heads : ℕ → Head) (vs : List ImplicitVariable) (item : DesugaredItem) (fillings : Fillings) (core : PlainCore)
    → first_unknown sig item ≡ None → is_explicit sig item ≡ true → ReadsBody sig heads vs item.body fillings core → explicit sig item ≡ Some core
