-- Laws of what is posed and settled, as statements; the functions of the crate's `laws` state them.
use Rattle.std.specs.Prelude.{ℕ, ◌≡◌, List, map}
use Rattle.clf_syntax.specs.Tree.{PlainObject}
use Rattle.clf_syntax.specs.TypeTree.{PlainType}
use Rattle.clf_syntax.specs.PlainTypes.{plain_ty}
use Rattle.clf_syntax.specs.Simple.{erase, Families}
use Rattle.clf_sig.specs.Entry.{PlainSignature}
use Rattle.clf_sig.specs.Core.{PlainCore, plain_core}
use Rattle.pattern_laws.specs.Instantiations.{Types, closed}
use Rattle.pattern_laws.specs.Equations.{Equation}
use Rattle.unify_laws.specs.Problems.{Problem}
use Rattle.reach_laws.specs.Unified.{Clashed}
use Rattle.solver_laws.specs.Solving.{problem_of}
use Rattle.metavars.specs.Stored.{additions}
use Rattle.celf_solve.specs.declared.scene.Scene.{Scene}
use Rattle.celf_solve.specs.declared.scene.Found.{Found}
use Rattle.gathered_laws.specs.Formed.{CoreIsFormed}
use Rattle.celf_solve.specs.Settled.{Settles, Comes, Sticks, Clashes}
use Rattle.celf_solve.specs.Scenes.{constants_in, metas_in, tree_of, types_of, IsScene, Gathered, EachIsFormed, IsSettled, AreLeft, start_of}

-- Of a scene whose tree gathers these equations.
pub record AnswersGathered (sig : PlainSignature) (s : Scene) (q : List Equation) : Type 0 where
  pub found : (f : Found) → IsSettled s q f
      → Comes sig (types_of s) (metas_in s) (tree_of s) (problem_of (additions f.store) q) (plain_core f.core) (map plain_ty f.types)
  pub stuck : (left : List Equation) (h : AreLeft s q left) → Sticks sig (types_of s) (metas_in s) (tree_of s) h.now left
  pub clash : (now : Problem) (under : ℕ) (left right : PlainObject) → Clashed (constants_in s) (start_of s q) now under left right
      → Clashes sig (types_of s) (metas_in s) (tree_of s) now under left right

-- Where the gathered equations are those that are solved, the answers are such of the tree.
abbrev pub PosedAndSettled : Type 0
PosedAndSettled = (sig : PlainSignature) (s : Scene) (q : List Equation) → IsScene sig s → Gathered sig s q → AnswersGathered sig s q

-- The core and the types are simply formed over the metavariables that are there then, and the types have the same erasures.
pub record IsFormedAfter (arguments : Families) (constants : Types) (types : List PlainType) (now : Problem) (core : PlainCore) (after : List PlainType) : Type 0 where
  pub tree : CoreIsFormed arguments (closed constants now.metas) core
  pub each : EachIsFormed arguments (closed constants now.metas) after
  pub erased : map erase after ≡ map erase types

-- What is simply formed stays so with all solutions put in.
abbrev pub SettledIsFormed : Type 0
SettledIsFormed = (arguments : Families) (constants metas : Types) (q : List Equation) (tree : PlainCore) (types : List PlainType)
    (now : Problem) (core : PlainCore) (after : List PlainType)
    → Settles constants metas q tree types now core after → CoreIsFormed arguments (closed constants metas) tree
    → EachIsFormed arguments (closed constants metas) types
    → IsFormedAfter arguments constants types now core after
