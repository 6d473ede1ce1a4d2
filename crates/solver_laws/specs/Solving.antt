-- The state of unification between two steps.
use Rattle.std.specs.Prelude.{ℕ, ◌≡◌, ◌⊎◌, List, length, Option, Some, None}
use Rattle.std.specs.List.{slice_get}
use Rattle.clf_syntax.specs.Tree.{PlainObject}
use Rattle.clf_syntax.specs.TypeTree.{SimpleType}
use Rattle.subst_laws.specs.Environments.{Instantiation}
use Rattle.store_laws.specs.Additions.{Addition, meta_types, given}
use Rattle.store_laws.specs.PutIn.{PutIn, IsClosed}
use Rattle.store_laws.specs.Store.{IsStore}
use Rattle.store_laws.proofs.Closing.{Gives}
use Rattle.pattern_laws.specs.Instantiations.{Types, closed}
use Rattle.pattern_laws.specs.Equations.{Equation, Listed, TypedEquation, TypedEquations}
use Rattle.pattern_laws.specs.Patterns.{HasFinalResult}
use Rattle.unify_laws.specs.Problems.{Problem}
use Rattle.unify_laws.specs.Progress.{Progress}
use Rattle.unify_laws.specs.Weight.{weight}
use Rattle.reach_laws.specs.Rest.{PartOf, EquationUnder, EachUnder}
use Rattle.reach_laws.specs.Sources.{FromPlaces, FromSide}
use Rattle.reach_laws.specs.Unified.{IsPutIn}

-- the simple types of the metavariables without a solution
abbrev pub without_solution : Option SimpleType → Option PlainObject → Option SimpleType
without_solution t None = t
without_solution t (Some o) = None

abbrev pub unsolved_types : Types → Instantiation → Types
unsolved_types metas solutions m = without_solution (metas m) (solutions m)

-- The solution came from a side, where the solutions that were there before gave something to metavariables with types alone.
pub record FromEarlierSide (constants metas : Types) (es : List Equation) (s : Instantiation) (o : PlainObject) : Type 0 where
  pub from : FromSide constants metas es s o
  pub gives : Gives (closed constants metas) from.earlier

-- Between two steps: s is the solutions with all solutions put in.
pub record Solving (constants : Types) (start now : Problem) (s : Instantiation) : Type 0 where
  pub progress : Progress constants start now
  pub put_in : IsPutIn constants now.metas now.given s
  pub sources : (m : ℕ) (o : PlainObject) → start.given m ≡ None → now.given m ≡ Some o → FromPlaces o ⊎ FromEarlierSide constants now.metas start.equations s o

-- An equation in hand is a part of a given one with all solutions put in.
pub record InHand (constants : Types) (start now : Problem) (s : Instantiation) (e : Equation) : Type 0 where
  pub equation : Equation
  pub after : Equation
  pub listed : Listed equation start.equations
  pub is_under : EquationUnder s equation after
  pub is_part : PartOf constants now.metas after e

-- the problem of a store and some equations
abbrev pub problem_of : List Addition → List Equation → Problem
problem_of zs es = record { metas = slice_get (meta_types zs); given = given zs; equations = es }

-- what a store still may become: the unsolved metavariables, each with its arguments
abbrev pub store_weight : List Addition → ℕ
store_weight zs = weight (slice_get (meta_types zs)) (given zs) (length (meta_types zs))

-- A store, and equations that are typed in it: each metavariable's result is a family or a monad.
pub record Ready (constants : List SimpleType) (zs : List Addition) (es : List Equation) : Type 0 where
  pub store : IsStore constants zs
  pub final : (m : ℕ) (a : SimpleType) → slice_get (meta_types zs) m ≡ Some a → HasFinalResult a
  pub typed : TypedEquations (slice_get constants) (slice_get (meta_types zs)) es

-- Each equation is typed, and mentions no metavariable that has a solution.
abbrev pub Open : List SimpleType → List Addition → List Equation → Type 0
Open constants zs es = TypedEquations (slice_get constants) (unsolved_types (slice_get (meta_types zs)) (given zs)) es

-- The equations ds are the equations es with all solutions put in.
abbrev pub ArePutIn : List Addition → List Equation → List Equation → Type 0
ArePutIn zs es ds = (s : Instantiation) → PutIn (given zs) s → IsClosed s → EachUnder s es ds

-- With all solutions put in, the equation is in hand.
pub record Held (constants : Types) (start now : Problem) (s : Instantiation) (e : Equation) : Type 0 where
  pub typed : TypedEquation constants now.metas e
  pub after : Equation
  pub is_under : EquationUnder s e after
  pub in_hand : InHand constants start now s after

-- In the work on the equations es, the store was `before` and is now `zs`; s is its solutions with all solutions put in, and the equations ws are held.
pub record Working (constants : List SimpleType) (before zs : List Addition) (es : List Equation) (s : Instantiation) (ws : List Equation) : Type 0 where
  pub solving : Solving (slice_get constants) (problem_of before es) (problem_of zs es) s
  pub held : (e : Equation) → Listed e ws → Held (slice_get constants) (problem_of before es) (problem_of zs es) s e
