-- Inner: what the calls on the way have at hand.
use Rattle.std.specs.Prelude.{ℕ, ◌≡◌, ◌<◌, ◌++◌, List, [], Option, Some, Err, length, map, option_map, slice_get, Contains}
use Rattle.clf_syntax.specs.PlainTypes.{plain_ty}
use Rattle.clf_syntax.specs.Simple.{Assignment, erase}
use Rattle.clf_syntax.specs.TypeTree.{PlainType, SimpleType}
use Rattle.clf_syntax.specs.Wide.{IsWide}
use Rattle.clf_syntax.specs.declared.fault.OrWide.{OrWide}
use Rattle.clf_syntax.specs.declared.fault.OrWide.TheVariants.{Fault, NoMemory, TooFar}
use Rattle.clf_sig.specs.Entry.{PlainSignature, PlainClass, simple_types}
use Rattle.clf_sig.specs.Core.{PlainCore, plain_core}
use Rattle.store_laws.specs.Additions.{meta_types}
use Rattle.metavars.specs.Stored.{Stored, constants, additions}
use Rattle.pattern_laws.specs.Instantiations.{Types, closed}
use Rattle.pattern_laws.specs.Equations.{Equation}
use Rattle.pattern_laws.specs.Patterns.{HasFinalResult}
use Rattle.typing_laws.specs.SimpleTyping.{families_of}
use Rattle.celf_sugar.specs.PlainTree.{DesugaredBody, DesugaredItem}
use Rattle.celf_implicit.specs.declared.variable.Implicit.{Implicit}
use Rattle.celf_implicit.specs.declared.variable.Variable.{Variable}
use Rattle.celf_implicit.specs.Rounds.{determined}
use Rattle.celf_elaboration.specs.Names.{TypedVariable}
use Rattle.celf_filled.specs.Scopes.{plain_named}
use Rattle.filled_laws.specs.Families.{HasFamilies}
use Rattle.celf_front.specs.Fronted.{IsInCircle}
use Rattle.celf_replies.specs.declared.reply.Why.{Why}
use Rattle.celf_replies.specs.Reply.{PlainMismatch, PlainWhy, plain_why, undetermined as undetermined_name, ill_typed, circular}
use Rattle.celf_solve.specs.declared.scene.Scene.{Scene}
use Rattle.celf_solve.specs.declared.scene.Found.{Found}
use Rattle.gathered_laws.specs.Formed.{CoreIsFormed}
use Rattle.celf_solve.specs.Scenes.{EachIsFormed}
use Rattle.celf_solve.specs.Scenes.{tree_of, types_of, metas_in, IsScene, IsSettled, IsPosed as IsPosedScene}
use Rattle.celf_reconstruct.specs.Trees.{read_name}
use Rattle.celf_reconstruct.specs.Posed.{IsPosed, Unsettled}
use Rattle.celf_reconstruct.specs.Reconstructed.{IsFound, IsSearch, IsTest, IsReconstruction}

-- The item is declined for this, or memory or a number is wanting.
abbrev pub Declined : PlainSignature → DesugaredItem → OrWide Why → Type 0
Declined sig item fault = IsReconstruction sig item (Err fault)

-- It is for a reason of this kind, or memory or a number is wanting.
abbrev pub IsFor : (PlainWhy → Type 0) → OrWide Why → Type 0
IsFor P (Fault why) = P (plain_why why)
IsFor P NoMemory = Unit {0}
IsFor P (TooFar w) = IsWide w

abbrev pub IsIllTyped : PlainWhy → Type 0
IsIllTyped why = (m : PlainMismatch) × (why ≡ ill_typed m)

-- These are the implicit variables, by their names and simple types.
abbrev pub AreVariables : List TypedVariable → List Implicit → Type 0
AreVariables vs xs = map plain_named xs ≡ map read_name vs

-- The simple types of the metavariables have the families of the signature.
abbrev pub HaveFamilies : PlainSignature → Types → Type 0
HaveFamilies sig metas = (m : ℕ) (a : SimpleType) → metas m ≡ Some a → HasFamilies sig a

-- A tree of the item is at hand.
pub record HasScene (sig : PlainSignature) (body : DesugaredBody) (xs : List Implicit) (unnamed : ℕ) (scene : Scene) : Type 0 where
  pub vs : List TypedVariable
  pub variables : AreVariables vs xs
  pub posed : IsPosed sig body vs unnamed (types_of scene) (metas_in scene) (tree_of scene)
  pub is_scene : IsScene sig scene
  pub families : HaveFamilies sig (metas_in scene)

-- Why nothing comes of a tree, or memory or a number is wanting.
abbrev pub UnsettledScene : PlainSignature → Scene → OrWide Why → Type 0
UnsettledScene sig s fault = IsFor (Unsettled sig (types_of s) (metas_in s) (tree_of s)) fault

-- The equations of the tree are solved.
pub record ComesOf (sig : PlainSignature) (scene : Scene) (f : Found) : Type 0 where
  pub equations : List Equation
  pub posed : IsPosedScene sig scene equations
  pub settled : IsSettled scene equations f

-- the simple types of the constants and of the metavariables of a store
abbrev pub heads_of_store : Stored → Assignment
heads_of_store s = closed (slice_get (constants s)) (slice_get (meta_types (additions s)))

-- A core and types are simply formed in a store, whose constants are those of the signature and then some of these types.
pub record IsFormedIn (sig : PlainSignature) (core : PlainCore) (types : List PlainType) (store : Stored) : Type 0 where
  pub constants_are : constants store ≡ simple_types sig ++ map erase types
  pub formed : CoreIsFormed (families_of sig) (heads_of_store store) core
  pub each : EachIsFormed (families_of sig) (heads_of_store store) types
  pub final : (m : ℕ) (a : SimpleType) → slice_get (meta_types (additions store)) m ≡ Some a → HasFinalResult a
  pub families : HaveFamilies sig (slice_get (meta_types (additions store)))

-- What one of the item's trees comes to is at hand, with its store.
pub record HasFound (sig : PlainSignature) (body : DesugaredBody) (xs : List Implicit) (unnamed : ℕ) (f : Found) : Type 0 where
  pub vs : List TypedVariable
  pub variables : AreVariables vs xs
  pub found : IsFound sig body vs unnamed (plain_core f.core) (map plain_ty f.types)
  pub metas : found.now.metas ≡ slice_get (meta_types (additions f.store))
  pub formed_in : IsFormedIn sig (plain_core f.core) (map plain_ty f.types) f.store

-- The numbers of binders are those of types.
abbrev pub AreWithin : ℕ → List ℕ → Type 0
AreWithin count numbers = (k : ℕ) → Contains numbers k → k < count

abbrev pub variable_of : Implicit → List ℕ
variable_of x = x.name

-- the name of a binder; unnamed ones have none
abbrev pub name_in : List Implicit → ℕ → Option (List ℕ)
name_in xs i = option_map variable_of (slice_get xs i)

-- The item is declined as these binders have no order, for a circle of them.
abbrev pub IsCircular : PlainSignature → List Implicit → List PlainType → List ℕ → PlainWhy → Type 0
IsCircular sig xs types binders why = (circle : List ℕ) × IsInCircle (length sig) types binders circle × (why ≡ circular (map (name_in xs) circle))

-- It is no query and no trace, and a check or an equation has no implicit variable.
pub record IsWithinReach (sig : PlainSignature) (body : DesugaredBody) : Type 0 where
  pub no_search : IsSearch body → ⊥
  pub no_variables : IsTest body → determined sig body ≡ []

-- It says of a variable that is nowhere determined that it is so, and that memory or a number is wanting where it is.
abbrev pub SaysUndetermined : OrWide Variable → OrWide Why → Type 0
SaysUndetermined (Fault v) fault = IsFor (λ why. why ≡ undetermined_name v.name) fault
SaysUndetermined NoMemory fault = fault ≡ NoMemory
SaysUndetermined (TooFar w) fault = fault ≡ TooFar w
