-- What the call answers.
use Rattle.std.specs.Prelude.{◌≡◌, List, []}
use Rattle.std.specs.List.{slice_get}
use Rattle.pattern_laws.specs.Equations.{Equation}
use Rattle.reach_laws.specs.Unified.{Unified, Clashed}
use Rattle.flat_systems.specs.Systems.{FlatStore, FlatSystem}
use Rattle.solver_laws.specs.Solving.{problem_of}
use Rattle.clf_syntax.specs.Plain.{plain_obj}
use Rattle.celf_constraints.specs.Equated.{equations_in}
use Rattle.metavars.specs.Stored.{Stored, constants, additions}
use Rattle.celf_unify.specs.declared.answer.Unified.{Unified as Answer}
use Rattle.celf_unify.specs.declared.answer.Unified.TheVariants.{Solved, Stuck, Clash}

-- The equations were given in the first store, and the second one came of it.
abbrev pub Answers : Stored → List Equation → Stored → Answer → Type 0
Answers s es t Solved = Unified (slice_get (constants s)) (problem_of (additions s) es) (problem_of (additions t) es) []
Answers s es t (Stuck left) = Unified (slice_get (constants s)) (problem_of (additions s) es) (problem_of (additions t) es) (equations_in left) × (equations_in left ≡ [] → ⊥)
Answers s es t (Clash c) = Clashed (slice_get (constants s)) (problem_of (additions s) es) (problem_of (additions t) es) c.under (plain_obj c.left) (plain_obj c.right)

-- the answer is no `Stuck`
abbrev pub IsDecided : Answer → Type 0
IsDecided Solved = Unit {0}
IsDecided (Stuck left) = ⊥
IsDecided (Clash c) = Unit {0}

-- Flat equations in a flat store are solved or clash, and the store stays flat.
abbrev pub FlatAnswers : Stored → List Equation → Stored → Answer → Type 0
FlatAnswers s es t u = FlatSystem (constants s) (additions s) es → FlatStore (constants s) (additions t) × IsDecided u

-- the answer where these equations are left
abbrev pub IsLeft : List Equation → Answer → Type 0
IsLeft ls Solved = ls ≡ []
IsLeft ls (Stuck left) = (equations_in left ≡ ls) × (ls ≡ [] → ⊥)
IsLeft ls (Clash c) = ⊥
