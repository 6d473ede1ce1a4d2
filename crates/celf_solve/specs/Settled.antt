-- Equations that are solved, and trees with all solutions put in.
use Rattle.std.specs.Prelude.{ℕ, ◌≡◌, List, [], ◌∷◌, slice_get}
use Rattle.clf_syntax.specs.Tree.{PlainObject}
use Rattle.clf_syntax.specs.TypeTree.{PlainType}
use Rattle.hered_subst.specs.Substitution.{SubstitutedType}
use Rattle.subst_laws.specs.Environments.{Instantiation, instant}
use Rattle.clf_sig.specs.Entry.{PlainSignature}
use Rattle.clf_sig.specs.Core.{PlainCore}
use Rattle.pattern_laws.specs.Instantiations.{Types}
use Rattle.pattern_laws.specs.Equations.{Equation}
use Rattle.unify_laws.specs.Problems.{Problem}
use Rattle.reach_laws.specs.Unified.{Unified, Clashed, IsPutIn}
use Rattle.elaboration_laws.specs.General.{fresh_problem}
use Rattle.elaboration_laws.specs.ItemSetting.{item_setting}
use Rattle.celf_elaboration.specs.Items.{SubstitutedCore, CoreGathers}
use Rattle.gathered_laws.specs.Formed.{store_constants}

-- the simple types of the signature's constants, and past them those of these types
abbrev pub constants_of : PlainSignature → List PlainType → Types
constants_of sig types = slice_get (store_constants sig types)

-- An instantiation makes these types those.
abbrev pub EachBecomes : Instantiation → List PlainType → List PlainType → Type 0
EachBecomes s [] [] = Unit {0}
EachBecomes s (a ∷ as_) (b ∷ bs) = SubstitutedType (instant s) a b × EachBecomes s as_ bs
EachBecomes s [] (b ∷ bs) = ⊥
EachBecomes s (a ∷ as_) [] = ⊥

-- The equations are solved, and core and after are the tree and the types with all solutions put in. Metavariables may be left.
pub record Settles (constants metas : Types) (equations : List Equation) (tree : PlainCore) (types : List PlainType)
    (now : Problem) (core : PlainCore) (after : List PlainType) : Type 0 where
  pub unified : Unified constants (fresh_problem metas equations) now []
  pub solutions : Instantiation
  pub put_in : IsPutIn constants now.metas now.given solutions
  pub core_becomes : SubstitutedCore (instant solutions) tree core
  pub types_become : EachBecomes solutions types after

-- What is gathered of the tree is solved, where past the signature's constants there are some of these types.
pub record Comes (sig : PlainSignature) (types : List PlainType) (metas : Types) (tree : PlainCore)
    (now : Problem) (core : PlainCore) (after : List PlainType) : Type 0 where
  pub equations : List Equation
  pub gathers : CoreGathers sig (item_setting sig types metas) tree equations
  pub settles : Settles (constants_of sig types) metas equations tree types now core after

-- What is gathered of the tree comes down to these equations, each of which is stuck.
pub record Sticks (sig : PlainSignature) (types : List PlainType) (metas : Types) (tree : PlainCore) (now : Problem) (left : List Equation) : Type 0 where
  pub equations : List Equation
  pub gathers : CoreGathers sig (item_setting sig types metas) tree equations
  pub unified : Unified (constants_of sig types) (fresh_problem metas equations) now left
  pub some_left : left ≡ [] → ⊥

-- What is gathered of the tree has no solution: these two sides, under so many variables, can never be joined.
pub record Clashes (sig : PlainSignature) (types : List PlainType) (metas : Types) (tree : PlainCore)
    (now : Problem) (under : ℕ) (left right : PlainObject) : Type 0 where
  pub equations : List Equation
  pub gathers : CoreGathers sig (item_setting sig types metas) tree equations
  pub clashed : Clashed (constants_of sig types) (fresh_problem metas equations) now under left right
