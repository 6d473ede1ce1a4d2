-- What is asked of a scene, and what is answered of it.
use Rattle.std.specs.Prelude.{ℕ, ◌≡◌, List, [], ◌∷◌, map, Some, None, slice_get}
use Rattle.clf_syntax.specs.TypeTree.{PlainType, SimpleType}
use Rattle.clf_syntax.specs.Simple.{Assignment, Families, SimplyFormed}
use Rattle.clf_syntax.specs.Plain.{plain_obj}
use Rattle.clf_syntax.specs.PlainTypes.{plain_ty}
use Rattle.clf_sig.specs.Entry.{PlainSignature}
use Rattle.clf_sig.specs.Core.{PlainCore, plain_core}
use Rattle.store_laws.specs.Additions.{meta_types, given}
use Rattle.metavars.specs.Stored.{constants, additions}
use Rattle.pattern_laws.specs.Instantiations.{Types, closed}
use Rattle.pattern_laws.specs.Equations.{Equation, TypedEquations}
use Rattle.pattern_laws.specs.Patterns.{HasFinalResult}
use Rattle.unify_laws.specs.Problems.{Problem}
use Rattle.reach_laws.specs.Unified.{Unified, Clashed}
use Rattle.solver_laws.specs.Solving.{problem_of}
use Rattle.elaboration_laws.specs.General.{fresh_problem}
use Rattle.elaboration_laws.specs.ItemSetting.{item_setting, ReadTypes}
use Rattle.celf_elaboration.specs.Items.{CoreGathers}
use Rattle.celf_constraints.specs.Equated.{equations_in}
use Rattle.celf_gather.specs.Holes.{CoreHasNoHole}
use Rattle.celf_conform.specs.declared.misfit.Misfit.{Misfit}
use Rattle.celf_conform.specs.Known.{known_over}
use Rattle.celf_conform.specs.Conforms.{IsFirstMisfit}
use Rattle.celf_solve.specs.declared.scene.Scene.{Scene}
use Rattle.celf_solve.specs.declared.scene.Found.{Found}
use Rattle.celf_solve.specs.declared.scene.Posed.{Posed}
use Rattle.celf_solve.specs.declared.scene.Posed.TheVariants as posed
use Rattle.celf_solve.specs.declared.scene.Solved.{Solved}
use Rattle.celf_solve.specs.declared.scene.Solved.TheVariants as solved
use Rattle.gathered_laws.specs.Formed.{CoreIsFormed, store_constants}
use Rattle.celf_solve.specs.Settled.{Settles}

-- ---- the parts of a scene

abbrev pub tree_of : Scene → PlainCore
tree_of s = plain_core s.core

abbrev pub types_of : Scene → List PlainType
types_of s = map plain_ty s.types

abbrev pub constants_in : Scene → Types
constants_in s = slice_get (constants s.store)

abbrev pub metas_in : Scene → Types
metas_in s = slice_get (meta_types (additions s.store))

-- the simple types of the constants and the metavariables
abbrev pub heads_in : Scene → Assignment
heads_in s = closed (constants_in s) (metas_in s)

-- No metavariable of the scene is solved, and the result of each is a family or a monad.
pub record IsFresh (s : Scene) : Type 0 where
  pub unsolved : (m : ℕ) → given (additions s.store) m ≡ None
  pub final : (m : ℕ) (a : SimpleType) → metas_in s m ≡ Some a → HasFinalResult a

-- ---- equations of a tree

-- The constants past those of the signature have the types of the scene, which are simply formed without variables, and no hole stands in the tree.
pub record IsScene (sig : PlainSignature) (s : Scene) : Type 0 where
  pub constants_are : constants s.store ≡ store_constants sig (types_of s)
  pub fresh : IsFresh s
  pub read : ReadTypes sig (types_of s) (metas_in s)
  pub no_hole : CoreHasNoHole (tree_of s)

-- These equations are gathered of the tree.
abbrev pub Gathered : PlainSignature → Scene → List Equation → Type 0
Gathered sig s q = CoreGathers sig (item_setting sig (types_of s) (metas_in s)) (tree_of s) q

abbrev pub GathersNone : PlainSignature → Scene → Type 0
GathersNone sig s = (q : List Equation) → Gathered sig s q → ⊥

abbrev pub EachIsFormed : Families → Assignment → List PlainType → Type 0
EachIsFormed arguments g [] = Unit {0}
EachIsFormed arguments g (a ∷ as_) = SimplyFormed arguments g a × EachIsFormed arguments g as_

-- The tree, the types and the equations are simply typed in a store in which nothing is solved.
pub record MaySettle (s : Scene) (q : List Equation) : Type 0 where
  pub fresh : IsFresh s
  pub typed : TypedEquations (constants_in s) (metas_in s) q
  pub arguments : Families
  pub formed : CoreIsFormed arguments (heads_in s) (tree_of s)
  pub types_formed : EachIsFormed arguments (heads_in s) (types_of s)

-- The equations of the tree, which may be solved.
pub record IsPosed (sig : PlainSignature) (s : Scene) (q : List Equation) : Type 0 where
  pub gathers : Gathered sig s q
  pub may_settle : MaySettle s q

-- Nothing is gathered of the tree, and this is wrong with it at the first place where it does not conform to simple types.
pub record IsMisfit (sig : PlainSignature) (s : Scene) (w : Misfit) : Type 0 where
  pub nothing : GathersNone sig s
  pub first : IsFirstMisfit (known_over sig (constants s.store) (meta_types (additions s.store))) (tree_of s) w

abbrev pub Poses : PlainSignature → Scene → Posed → Type 0
Poses sig s (posed.Equations q) = IsPosed sig s (equations_in q)
Poses sig s (posed.Misfit w) = IsMisfit sig s w

-- ---- equations solved

abbrev pub start_of : Scene → List Equation → Problem
start_of s q = fresh_problem (metas_in s) q

-- The equations are solved, and all solutions are put in; the store has the same constants, and more metavariables and solutions.
pub record IsSettled (s : Scene) (q : List Equation) (f : Found) : Type 0 where
  pub same_constants : constants f.store ≡ constants s.store
  pub settles : Settles (constants_in s) (metas_in s) q (tree_of s) (types_of s) (problem_of (additions f.store) q) (plain_core f.core) (map plain_ty f.types)

-- These equations are left, each of which is stuck.
pub record AreLeft (s : Scene) (q : List Equation) (left : List Equation) : Type 0 where
  pub now : Problem
  pub unified : Unified (constants_in s) (start_of s q) now left
  pub some_left : left ≡ [] → ⊥

abbrev pub Ends : Scene → List Equation → Solved → Type 0
Ends s q (solved.Found f) = IsSettled s q f
Ends s q (solved.Stuck left) = AreLeft s q (equations_in left)
Ends s q (solved.Clash c) = (now : Problem) × Clashed (constants_in s) (start_of s q) now c.under (plain_obj c.left) (plain_obj c.right)
