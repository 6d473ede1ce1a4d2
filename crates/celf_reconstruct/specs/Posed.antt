-- The trees of which equations are gathered for an item, and why none is solved.
use Rattle.std.specs.Prelude.{ℕ, ◌≡◌, List, [], ◌++◌, length, map, slice_get}
use Rattle.clf_syntax.specs.Tree.{PlainObject}
use Rattle.clf_syntax.specs.TypeTree.{PlainType, SimpleType}
use Rattle.clf_syntax.specs.Simple.{erase}
use Rattle.clf_sig.specs.Entry.{PlainSignature, simple_types}
use Rattle.clf_sig.specs.Core.{PlainCore, declares, queries, traces, equates, checks}
use Rattle.pattern_laws.specs.Instantiations.{Types}
use Rattle.pattern_laws.specs.Equations.{Equation}
use Rattle.unify_laws.specs.Problems.{Problem}
use Rattle.elaboration_laws.specs.ItemSetting.{item_setting}
use Rattle.celf_sugar.specs.PlainTree.{DesugaredBody}
use Rattle.celf_elaboration.specs.Names.{TypedVariable, types_read}
use Rattle.celf_elaboration.specs.Items.{CoreGathers}
use Rattle.celf_conform.specs.declared.misfit.Misfit.{Misfit}
use Rattle.celf_conform.specs.Known.{known_over}
use Rattle.celf_conform.specs.Conforms.{IsFirstMisfit}
use Rattle.celf_conform.specs.declared.misfit.Misfit.TheVariants.{NotFunction, NotPair, NotTop, NotMonad, NotAtomic, NotClosed, ModeDiffers, Width, FamilyDiffers, UnknownHead, FamilyArity}
use Rattle.celf_replies.specs.Reply.{PlainSides, PlainMismatch, not_function, not_pair, not_top, not_monad, not_atomic, not_closed, mode_differs, width, family_differs, unknown_head, family_arity, index_differs, PlainWhy, ill_typed, unresolved}
use Rattle.celf_solve.specs.Settled.{Comes, Sticks, Clashes}
use Rattle.celf_reconstruct.specs.Trees.{IsItemTree}
use Rattle.celf_reconstruct.specs.Left.{metavariables_with, IsNamed}

abbrev pub IsDeclaration : PlainCore → Type 0
IsDeclaration (declares name e) = Unit {0}
IsDeclaration (queries a) = ⊥
IsDeclaration (traces s) = ⊥
IsDeclaration (equates n o a) = ⊥
IsDeclaration (checks n a) = ⊥

-- What is left unnamed in what a declaration comes to, and the tree in which that has become constants.
pub record IsNamedTree (sig : PlainSignature) (body : DesugaredBody) (vs : List TypedVariable) (simples : List SimpleType) (tree : PlainCore) (types : List PlainType) (metas : Types) : Type 0 where
  pub first_metas : Types
  pub first_tree : PlainCore
  pub is_tree : IsItemTree sig body vs first_metas first_tree
  pub now : Problem
  pub core : PlainCore
  pub after : List PlainType
  pub comes : Comes sig (types_read vs) first_metas first_tree now core after
  pub declaration : IsDeclaration core
  pub some_left : metavariables_with core after ≡ [] → ⊥
  pub named : IsNamed sig now.metas core after simples tree types metas

-- A tree of the item, with the types of its implicit variables and then of as many unnamed ones, and with the simple types of its metavariables: first the tree that
-- is read; and of a declaration, where metavariables are left in what that comes to, once more that with constants for them.
pub data IsPosed (sig : PlainSignature) (body : DesugaredBody) (vs : List TypedVariable) : ℕ → List PlainType → Types → PlainCore → Type 0 where
  as_read : {metas : Types} {tree : PlainCore} → IsItemTree sig body vs metas tree → IsPosed sig body vs 0 (types_read vs) metas tree
  as_named : {simples : List SimpleType} {types : List PlainType} {metas : Types} {tree : PlainCore}
      → IsNamedTree sig body vs simples tree types metas → IsPosed sig body vs (length simples) types metas tree

-- ---- why nothing comes of a tree

-- as much of a misfit as is told
abbrev pub told : Misfit → PlainMismatch
told NotFunction = not_function
told NotPair = not_pair
told NotTop = not_top
told NotMonad = not_monad
told NotAtomic = not_atomic
told NotClosed = not_closed
told (ModeDiffers wanted found) = mode_differs
told (Width wanted found) = width
told (FamilyDiffers found wanted) = family_differs found wanted
told (UnknownHead head) = unknown_head
told (FamilyArity wanted found) = family_arity

-- the sides of an equation, under its locals
abbrev pub sides_of : Equation → PlainSides
sides_of e = record { under = length e.locals; left = e.left; right = e.right }

-- Nothing is gathered of the tree, as it does not conform to simple types, and this is wrong with it at the first place where it does not.
pub record Misfits (sig : PlainSignature) (types : List PlainType) (metas : Types) (tree : PlainCore) (w : Misfit) : Type 0 where
  pub nothing : (q : List Equation) → CoreGathers sig (item_setting sig types metas) tree q → ⊥
  pub metavariables : List SimpleType
  pub they : (m : ℕ) → metas m ≡ slice_get metavariables m
  pub first : IsFirstMisfit (known_over sig (simple_types sig ++ map erase types) metavariables) tree w

-- Why nothing comes of a tree over these types: nothing is gathered of it, as it does not conform to simple types, and this is wrong at the first such place; or what
-- is gathered has no solution, as two sides can never be joined; or it comes down to equations of which each is stuck.
pub data Unsettled (sig : PlainSignature) (types : List PlainType) (metas : Types) (tree : PlainCore) : PlainWhy → Type 0 where
  no_fit : {w : Misfit} → Misfits sig types metas tree w → Unsettled sig types metas tree (ill_typed (told w))
  no_solution : {now : Problem} {under : ℕ} {left right : PlainObject} → Clashes sig types metas tree now under left right
      → Unsettled sig types metas tree (ill_typed (index_differs (record { under = under; left = left; right = right })))
  stuck : {now : Problem} {left : List Equation} → Sticks sig types metas tree now left → Unsettled sig types metas tree (unresolved (map sides_of left))
