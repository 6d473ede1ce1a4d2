-- Inner: what comes of equations while the store stays.
use Rattle.std.specs.Prelude.{ℕ, ◌≡◌, List, length, map, Some}
use Rattle.std.specs.List.{slice_get}
use Rattle.clf_syntax.specs.TypeTree.{SimpleType}
use Rattle.clf_syntax.specs.Plain.{plain_obj}
use Rattle.store_laws.specs.Additions.{meta_types}
use Rattle.pattern_laws.specs.Instantiations.{Types}
use Rattle.pattern_laws.specs.Equations.{Equation, Listed, TypedEquations}
use Rattle.pattern_laws.specs.Patterns.{HasFinalResult, Place}
use Rattle.reach_laws.specs.Rest.{PartOf, Rest}
use Rattle.solver_laws.specs.Steps.{AssignsEither, NarrowsEither}
use Rattle.solver_laws.specs.Reduced.{Clashes}
use Rattle.celf_constraints.specs.Equated.{plain_equation, equations_in}
use Rattle.metavars.specs.Stored.{Stored, constants, additions}
use Rattle.celf_unify.specs.declared.answer.Clash.{Clash}
use Rattle.celf_unify.specs.declared.step.Step.{Step}
use Rattle.celf_unify.specs.declared.step.Step.TheVariants.{Assign, Narrow}
use Rattle.celf_unify.specs.declared.gather.Gathered.{Gathered}
use Rattle.celf_unify.specs.declared.gather.Gathered.TheVariants as gathered

-- the simple types of the constants and of the metavariables of a store
abbrev pub consts_in : Stored → Types
consts_in s = slice_get (constants s)

abbrev pub metas_in : Stored → Types
metas_in s = slice_get (meta_types (additions s))

-- The equations are typed in the store, where each metavariable's result is a family or a monad.
pub record IsTyped (s : Stored) (ws : List Equation) : Type 0 where
  pub typed : TypedEquations (consts_in s) (metas_in s) ws
  pub final : (m : ℕ) (a : SimpleType) → metas_in s m ≡ Some a → HasFinalResult a

-- The equation is a part of one of these.
abbrev pub PartIn : Types → Types → List Equation → Equation → Type 0
PartIn constants metas ws p = (e : Equation) × Listed e ws × PartOf constants metas e p

-- The clash is a part of one of the equations.
pub record ClashIn (constants metas : Types) (ws : List Equation) (c : Clash) : Type 0 where
  pub part : Equation
  pub is_part : PartIn constants metas ws part
  pub clashes : Clashes constants metas part
  pub under : length part.locals ≡ c.under
  pub left : part.left ≡ plain_obj c.left
  pub right : part.right ≡ plain_obj c.right

-- The step follows from the equation.
abbrev pub StepOf : Types → Types → Equation → Step → Type 0
StepOf constants metas e (Assign m o) = AssignsEither constants metas e m (plain_obj o)
StepOf constants metas e (Narrow k mask) = (zs : List Place) × (c : SimpleType) × NarrowsEither constants metas e k mask.items zs c

-- The rest has parts of the equations; the step follows from one of them.
pub record StepIn (constants metas : Types) (ws rest : List Equation) (step : Step) : Type 0 where
  pub parts : (e : Equation) → Listed e rest → PartIn constants metas ws e
  pub equation : Equation
  pub listed : Listed equation rest
  pub step_of : StepOf constants metas equation step

-- what comes of the equations, with these simple types of constants and metavariables
abbrev pub GathersOver : Types → Types → List Equation → Gathered → Type 0
GathersOver constants metas ws (gathered.Left left) = Rest constants metas ws (equations_in left)
GathersOver constants metas ws (gathered.Clash c) = ClashIn constants metas ws c
GathersOver constants metas ws (gathered.Step step rest) = StepIn constants metas ws (map plain_equation rest.items) step

abbrev pub Gathers : Stored → List Equation → Gathered → Type 0
Gathers s ws g = GathersOver (consts_in s) (metas_in s) ws g
