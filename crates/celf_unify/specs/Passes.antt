-- Inner: passes over equations.
use Rattle.std.specs.Prelude.{◌≡◌, ◌<◌, ◌≤◌, List, [], map, Option, Some, None}
use Rattle.clf_syntax.specs.TypeTree.{SimpleType}
use Rattle.clf_syntax.specs.Plain.{plain_obj}
use Rattle.std.specs.List.{slice_get}
use Rattle.subst_laws.specs.Environments.{Instantiation}
use Rattle.store_laws.specs.Additions.{Addition, meta_types, given}
use Rattle.pattern_laws.specs.Equations.{Equation, Listed, TypedEquation}
use Rattle.reach_laws.specs.Unified.{Unified, Clashed}
use Rattle.flat_systems.specs.Systems.{FlatStore, FlatSystem}
use Rattle.solver_laws.specs.Solving.{Solving, InHand, problem_of, store_weight, unsolved_types, Ready, Working}
use Rattle.celf_constraints.specs.Equated.{plain_equation, equations_in}
use Rattle.metavars.specs.Stored.{Stored, constants, additions}
use Rattle.celf_unify.specs.declared.answer.Clash.{Clash}
use Rattle.celf_unify.specs.declared.step.Step.{Step}
use Rattle.celf_unify.specs.declared.gather.Gathered.{Gathered}
use Rattle.celf_unify.specs.declared.gather.Gathered.TheVariants as gathered
use Rattle.celf_unify.specs.declared.pass.Pass.{Pass}
use Rattle.celf_unify.specs.declared.pass.Pass.TheVariants as pass
use Rattle.celf_unify.specs.Gathered.{StepOf}

-- The store is one in which these equations are typed.
abbrev pub IsReady : Stored → List Equation → Type 0
IsReady s es = Ready (constants s) (additions s) es

-- In a store with these constants and additions the step follows from one of the equations that are still to be looked at, which mentions nothing solved.
pub record MayAdvance (cs : List SimpleType) (zs : List Addition) (step : Step) (ws : List Equation) : Type 0 where
  pub ready : Ready cs zs ws
  pub equation : Equation
  pub listed : Listed equation ws
  pub is_open : TypedEquation (slice_get cs) (unsolved_types (slice_get (meta_types zs)) (given zs)) equation
  pub step_of : StepOf (slice_get cs) (slice_get (meta_types zs)) equation step

abbrev pub MayRun : List SimpleType → List Addition → Gathered → Type 0
MayRun cs zs (gathered.Left left) = Unit {0}
MayRun cs zs (gathered.Clash c) = Unit {0}
MayRun cs zs (gathered.Step step rest) = MayAdvance cs zs step (map plain_equation rest.items)

-- There are solutions with all solutions put in; or there was none, by the clash.
abbrev pub StillSolving : List SimpleType → List Addition → List Addition → List Equation → Type 0
StillSolving cs before now es = (v : Instantiation) × Solving (slice_get cs) (problem_of before es) (problem_of now es) v

abbrev pub ClashedAt : List SimpleType → List Addition → List Addition → List Equation → Clash → Type 0
ClashedAt cs before now es c = Clashed (slice_get cs) (problem_of before es) (problem_of now es) c.under (plain_obj c.left) (plain_obj c.right)

-- The work stands before a step, which follows from an equation in hand; these are held.
pub record StepStands (cs : List SimpleType) (before now : List Addition) (es : List Equation) (step : Step) (ws : List Equation) : Type 0 where
  pub all_in : Instantiation
  pub working : Working cs before now es all_in ws
  pub equation : Equation
  pub in_hand : InHand (slice_get cs) (problem_of before es) (problem_of now es) all_in equation
  pub step_of : StepOf (slice_get cs) (slice_get (meta_types now)) equation step

-- How the work stands.
abbrev pub WorkStands : List SimpleType → List Addition → List Addition → List Equation → Gathered → Type 0
WorkStands cs before now es (gathered.Left left) = StillSolving cs before now es
WorkStands cs before now es (gathered.Clash c) = ClashedAt cs before now es c
WorkStands cs before now es (gathered.Step step rest) = StepStands cs before now es step (map plain_equation rest.items)

-- What comes of a flat system is flat, and nothing of it is left.
abbrev pub FlatStands : List SimpleType → List Addition → Gathered → Type 0
FlatStands cs now (gathered.Left left) = FlatStore cs now × (equations_in left ≡ [])
FlatStands cs now (gathered.Clash c) = FlatStore cs now
FlatStands cs now (gathered.Step step rest) = FlatSystem cs now (map plain_equation rest.items)

-- The step was taken. Whatever work it belongs to goes on.
pub record Advances (s : Stored) (step : Step) (ws : List Equation) (t : Stored) (g : Gathered) : Type 0 where
  pub same : constants t ≡ constants s
  pub state : MayRun (constants s) (additions t) g
  pub lighter : store_weight (additions t) < store_weight (additions s)
  pub goes : (before : List Addition) (es : List Equation) → IsReady s es → StepStands (constants s) before (additions s) es step ws
      → Ready (constants s) (additions t) es × WorkStands (constants s) before (additions t) es g
  pub flat : FlatSystem (constants s) (additions s) ws → FlatStands (constants s) (additions t) g

abbrev pub RunEnds : List SimpleType → List Addition → List Addition → List Equation → Option Clash → Type 0
RunEnds cs before now es None = StillSolving cs before now es
RunEnds cs before now es (Some c) = ClashedAt cs before now es c

-- Steps were taken to the end of the pass.
pub record Runs (s : Stored) (first : Gathered) (t : Stored) (end : Option Clash) : Type 0 where
  pub same : constants t ≡ constants s
  pub lighter : store_weight (additions t) ≤ store_weight (additions s)
  pub goes : (before : List Addition) (es : List Equation) → IsReady s es → WorkStands (constants s) before (additions s) es first
      → Ready (constants s) (additions t) es × RunEnds (constants s) before (additions t) es end
  pub flat : FlatStands (constants s) (additions s) first → FlatStore (constants s) (additions t)

-- What a pass says of the work on the equations.
abbrev pub PassAnswers : List SimpleType → List Addition → List Addition → List Equation → Pass → Type 0
PassAnswers cs before now es pass.Again = StillSolving cs before now es
PassAnswers cs before now es (pass.Left left) = Unified (slice_get cs) (problem_of before es) (problem_of now es) (equations_in left)
PassAnswers cs before now es (pass.Clash c) = ClashedAt cs before now es c

-- what comes of a pass over a flat system
abbrev pub FlatEnds : List SimpleType → List Addition → Pass → Type 0
FlatEnds cs now pass.Again = FlatStore cs now
FlatEnds cs now (pass.Left left) = FlatStore cs now × (equations_in left ≡ [])
FlatEnds cs now (pass.Clash c) = FlatStore cs now

-- The rest of a pass, from a step on.
pub record Works (s : Stored) (step : Step) (ws : List Equation) (t : Stored) (p : Pass) : Type 0 where
  pub same : constants t ≡ constants s
  pub lighter : store_weight (additions t) < store_weight (additions s)
  pub goes : (before : List Addition) (es : List Equation) → IsReady s es → StepStands (constants s) before (additions s) es step ws
      → Ready (constants s) (additions t) es × PassAnswers (constants s) before (additions t) es p
  pub flat : FlatSystem (constants s) (additions s) ws → FlatEnds (constants s) (additions t) p

abbrev pub IsLighter : Stored → Pass → Stored → Type 0
IsLighter s pass.Again t = store_weight (additions t) < store_weight (additions s)
IsLighter s (pass.Left left) t = Unit {0}
IsLighter s (pass.Clash c) t = Unit {0}

-- A pass over the equations. Whatever work it belongs to goes on, or comes to its end.
pub record PassEnds (s : Stored) (es : List Equation) (t : Stored) (p : Pass) : Type 0 where
  pub same : constants t ≡ constants s
  pub ready : Ready (constants s) (additions t) es
  pub lighter : IsLighter s p t
  pub flat : FlatSystem (constants s) (additions s) es → FlatEnds (constants s) (additions t) p
  pub goes : (before : List Addition) (v : Instantiation) → Ready (constants s) before es → Solving (slice_get (constants s)) (problem_of before es) (problem_of (additions s) es) v
      → PassAnswers (constants s) before (additions t) es p
