-- Inner: how a store is made in which metavariables are solved by constants.
use Rattle.std.specs.Prelude.{ℕ, ◌≡◌, ◌≤◌, ◌<◌, ◌+◌, List, ◌++◌, length, map, Some, None, slice_get}
use Rattle.clf_syntax.specs.declared.tree.Head.TheVariants.{Const}
use Rattle.clf_syntax.specs.Tree.{head_alone}
use Rattle.clf_syntax.specs.TypeTree.{PlainType, SimpleType}
use Rattle.eta_laws.specs.Eta.{expansion}
use Rattle.clf_syntax.specs.PlainTypes.{plain_ty}
use Rattle.clf_sig.specs.Entry.{PlainSignature}
use Rattle.clf_sig.specs.Core.{PlainCore, plain_core}
use Rattle.store_laws.specs.Additions.{new, meta_types, given}
use Rattle.metavars.specs.Stored.{Stored, constants, additions, IsPart}
use Rattle.pattern_laws.specs.Instantiations.{Types}
use Rattle.clf_rules.specs.WellFormed.{WellFormedSignature}
use Rattle.celf_filled.specs.States.{count, IsGrownBy}
use Rattle.celf_filled.specs.TypedFrom.{indices_of}
use Rattle.filled_laws.specs.FreshTypes.{types_from, new_in_each}
use Rattle.celf_solve.specs.declared.scene.Scene.{Scene}
use Rattle.celf_solve.specs.declared.scene.Found.{Found}
use Rattle.celf_solve.specs.Scenes.{tree_of, types_of, metas_in, IsScene}
use Rattle.celf_reconstruct.specs.Left.{metavariables_with, naming, IsNamed}
use Rattle.celf_reconstruct.specs.Steps.{HaveFamilies, IsFormedIn}

abbrev pub metas_of : Stored → List SimpleType
metas_of s = meta_types (additions s)

abbrev pub types_in : Stored → Types
types_in s = slice_get (metas_of s)

-- the store with more constants, in which no metavariable is solved
pub record IsUnsolvedWith (old : Stored) (more : List SimpleType) (s : Stored) : Type 0 where
  pub constants_are : constants s ≡ constants old ++ more
  pub additions_are : additions s ≡ map new (metas_of old)

-- One metavariable is solved by the constant of this number.
pub record IsSolvedBy (old : Stored) (m number : ℕ) (new_one : Stored) : Type 0 where
  pub part : IsPart old new_one
  pub metas : metas_of new_one ≡ metas_of old
  pub simple : SimpleType
  pub known : types_in old m ≡ Some simple
  pub solution : given (additions new_one) m ≡ Some (expansion simple (head_alone (Const number)))
  pub others : (k : ℕ) → (k ≡ m → ⊥) → given (additions new_one) k ≡ given (additions old) k

-- One metavariable is solved by its constant, if it becomes one.
pub record NamesOne (first : ℕ) (left : List ℕ) (m : ℕ) (old new_one : Stored) : Type 0 where
  pub part : IsPart old new_one
  pub metas : metas_of new_one ≡ metas_of old
  pub named : given (additions new_one) m ≡ naming first (types_in old) left m
  pub others : (k : ℕ) → (k ≡ m → ⊥) → given (additions new_one) k ≡ given (additions old) k

-- The first metavariables are solved by constants, as they are named.
pub record IsNamedUntil (first : ℕ) (left : List ℕ) (old : Stored) (count : ℕ) (s : Stored) : Type 0 where
  pub part : IsPart old s
  pub metas : metas_of s ≡ metas_of old
  pub named : (m : ℕ) → m < count → given (additions s) m ≡ naming first (types_in old) left m
  pub later : (m : ℕ) → count ≤ m → given (additions s) m ≡ None

-- These are the simple types of the metavariables that are left.
abbrev pub AreSimples : Types → List ℕ → List SimpleType → Type 0
AreSimples metas left simples = map metas left ≡ map Some simples

-- What is found, with what is left as constants.
pub record IsNamedScene (sig : PlainSignature) (f : Found) (simples : List SimpleType) (scene : Scene) : Type 0 where
  pub named : IsNamed sig (types_in f.store) (plain_core f.core) (map plain_ty f.types) simples (tree_of scene) (types_of scene) (metas_in scene)
  pub is_scene : IsScene sig scene
  pub families : HaveFamilies sig (metas_in scene)

-- The store in which what is left of what is found is solved by constants, and nothing else.
pub record HasNames (f : Found) (first : ℕ) (left : List ℕ) (simples : List SimpleType) (names : Stored) : Type 0 where
  pub constants_are : constants names ≡ constants f.store ++ simples
  pub metas : metas_of names ≡ metas_of f.store
  pub named : (m : ℕ) → m < length (metas_of f.store) → given (additions names) m ≡ naming first (types_in f.store) left m
  pub later : (m : ℕ) → length (metas_of f.store) ≤ m → given (additions names) m ≡ None

-- It is such a store for what is found over a well-formed signature.
pub record NamesLeft (sig : PlainSignature) (f : Found) (simples : List SimpleType) (names : Stored) : Type 0 where
  pub signature : WellFormedSignature sig
  pub formed : IsFormedIn sig (plain_core f.core) (map plain_ty f.types) f.store
  pub left : List ℕ
  pub are_left : left ≡ metavariables_with (plain_core f.core) (map plain_ty f.types)
  pub are_simples : AreSimples (types_in f.store) left simples
  pub first : ℕ
  pub is_first : first ≡ length sig + length (map plain_ty f.types)
  pub has_names : HasNames f first left simples names

-- The core with its types, and after these types made of simple types, whose indices are new metavariables of the store.
pub record HasMadeTypes (sig : PlainSignature) (put : Found) (fresh : Stored) (simples : List SimpleType) (scene : Scene) : Type 0 where
  pub same_tree : scene.core ≡ put.core
  pub all_types : types_of scene ≡ map plain_ty put.types ++ types_from (indices_of sig) (count fresh) simples
  pub grown : IsGrownBy fresh scene.store (new_in_each (indices_of sig) simples)
