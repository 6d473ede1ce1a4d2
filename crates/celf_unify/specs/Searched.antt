-- Inner: what comes of equations while the store stays, each with all solutions put in.
use Rattle.std.specs.Prelude.{◌≡◌, ◌⊎◌, List, [], ◌∷◌, length, map}
use Rattle.clf_syntax.specs.Plain.{plain_obj}
use Rattle.subst_laws.specs.Environments.{Instantiation}
use Rattle.store_laws.specs.Additions.{given}
use Rattle.store_laws.specs.PutIn.{PutIn, IsClosed}
use Rattle.pattern_laws.specs.Instantiations.{Types}
use Rattle.pattern_laws.specs.Equations.{Equation, Listed}
use Rattle.reach_laws.specs.Rest.{ComesDown, PartOf, EquationUnder}
use Rattle.flat_systems.specs.Systems.{FlatSystem}
use Rattle.solver_laws.specs.Reduced.{Clashes, LeftOver}
use Rattle.celf_constraints.specs.Equated.{plain_equation, equations_in}
use Rattle.metavars.specs.Stored.{Stored, constants, additions}
use Rattle.celf_unify.specs.declared.answer.Clash.{Clash}
use Rattle.celf_unify.specs.declared.step.Step.{Step}
use Rattle.celf_unify.specs.declared.gather.Gathered.{Gathered}
use Rattle.celf_unify.specs.declared.gather.Gathered.TheVariants as gathered
use Rattle.celf_unify.specs.Steps.{IsPutIn}
use Rattle.celf_unify.specs.Gathered.{consts_in, metas_in, StepOf, Gathers}
use Rattle.celf_unify.specs.Passes.{FlatStands}

-- This comes of the equation, with all solutions put in.
abbrev pub GathersOnce : Stored → Equation → Gathered → Type 0
GathersOnce s e g = (d : Equation) × IsPutIn (additions s) e d × Gathers s (d ∷ []) g

module _ (constants metas : Types) (v : Instantiation) (ws : List Equation) where
  -- A part of one of the equations ws, after the assignment v.
  pub record PartAfter (p : Equation) : Type 0 where
    pub equation : Equation
    pub after : Equation
    pub listed : Listed equation ws
    pub is_under : EquationUnder v equation after
    pub is_part : PartOf constants metas after p

  -- The equations, after v, come down to those that are left.
  pub record LeftAfter (left : List Equation) : Type 0 where
    pub down : (e d : Equation) → Listed e ws → EquationUnder v e d → ComesDown constants metas left d
    pub met : (e : Equation) → Listed e left → PartAfter e
    pub over : (e : Equation) → Listed e left → LeftOver constants metas e

  -- The clash is such a part.
  pub record ClashAfter (c : Clash) : Type 0 where
    pub part : Equation
    pub is_part : PartAfter part
    pub clashes : Clashes constants metas part
    pub under : length part.locals ≡ c.under
    pub left : part.left ≡ plain_obj c.left
    pub right : part.right ≡ plain_obj c.right

  -- The step follows from such a part. Still to be looked at are some of the equations, as they are, and some such parts.
  pub record StepAfter (rest : List Equation) (step : Step) : Type 0 where
    pub parts : (e : Equation) → Listed e rest → Listed e ws ⊎ PartAfter e
    pub equation : Equation
    pub is_part : PartAfter equation
    pub step_of : StepOf constants metas equation step

  abbrev pub FoundAfter : Gathered → Type 0
  FoundAfter (gathered.Left left) = LeftAfter (equations_in left)
  FoundAfter (gathered.Clash c) = ClashAfter c
  FoundAfter (gathered.Step step rest) = StepAfter (map plain_equation rest.items) step

-- This comes of the equations, with all solutions put in.
abbrev pub Searches : Stored → List Equation → Gathered → Type 0
Searches s ws g = (v : Instantiation) → PutIn (given (additions s)) v → IsClosed v → FoundAfter (consts_in s) (metas_in s) v ws g

-- what comes of flat equations
abbrev pub FlatSearches : Stored → List Equation → Gathered → Type 0
FlatSearches s ws g = FlatSystem (constants s) (additions s) ws → FlatStands (constants s) (additions s) g

-- The equations ws come down to those that are left, and to those that are still to be looked at.
pub record SoFar (constants metas : Types) (v : Instantiation) (ws work left : List Equation) : Type 0 where
  pub down : (e d : Equation) → Listed e ws → EquationUnder v e d → Listed e work ⊎ ComesDown constants metas left d
  pub met : (e : Equation) → Listed e left → PartAfter constants metas v ws e
  pub over : (e : Equation) → Listed e left → LeftOver constants metas e
