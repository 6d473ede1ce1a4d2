-- Unification problems: metavariables with their simple types and solutions, and equations; what solves them, and what a step may do.
use Rattle.std.specs.Prelude.{ℕ, ◌≡◌, List, Some}
use Rattle.clf_syntax.specs.Tree.{PlainObject}
use Rattle.clf_syntax.specs.TypeTree.{SimpleType}
use Rattle.clf_syntax.specs.Simple.{SimplyTyped}
use Rattle.subst_laws.specs.Environments.{Instantiation, instant}
use Rattle.pattern_laws.specs.Instantiations.{Types, closed, Instantiates, Agrees}
use Rattle.pattern_laws.specs.Equations.{Equation, Solves, SolvesEach, TypedEquations}
use Rattle.pattern_laws.specs.Patterns.{HasFinalResult}

-- the simple types of the metavariables, their solutions as they were given, and equations
pub record Problem : Type 0 where
  pub metas : Types
  pub given : Instantiation
  pub equations : List Equation

abbrev pub IsSolution : Types → Types → Instantiation → Problem → Type 0
IsSolution constants parameters t p = Instantiates constants p.metas parameters t × Agrees t p.given × SolvesEach (instant t) p.equations

-- the same at the metavariables that have a type
abbrev pub Extends : Types → Instantiation → Instantiation → Type 0
Extends metas t v = (m : ℕ) (a : SimpleType) → metas m ≡ Some a → v m ≡ t m

-- A step keeps the solutions: each one of the first problem goes on to one of the second, where new metavariables get objects, and each one of the second is one of the first.
abbrev pub KeepsSolutions : Types → Problem → Problem → Type 0
KeepsSolutions constants p q = ((parameters : Types) (t : Instantiation) → IsSolution constants parameters t p → (v : Instantiation) × Extends p.metas t v × IsSolution constants parameters v q)
    × ((parameters : Types) (t : Instantiation) → IsSolution constants parameters t q → IsSolution constants parameters t p)

-- Each solution of the problem solves the equation.
abbrev pub Consequence : Types → Problem → Equation → Type 0
Consequence constants p e = (parameters : Types) (t : Instantiation) → IsSolution constants parameters t p → Solves (instant t) e

abbrev pub HasNone : Types → Problem → Type 0
HasNone constants p = (parameters : Types) (t : Instantiation) → IsSolution constants parameters t p → ⊥

-- No metavariable is lost, and each keeps its type.
abbrev pub Grows : Types → Types → Type 0
Grows metas more = (m : ℕ) (a : SimpleType) → metas m ≡ Some a → more m ≡ Some a

-- No solution is lost or changed.
abbrev pub Stays : Instantiation → Instantiation → Type 0
Stays given more = (m : ℕ) (o : PlainObject) → given m ≡ Some o → more m ≡ Some o

-- Both sides of each equation have its simple type, each solution is closed and has its metavariable's, and each metavariable's result is a family or a monad.
abbrev pub WellTyped : Types → Problem → Type 0
WellTyped constants p = TypedEquations constants p.metas p.equations
    × ((m : ℕ) (s : PlainObject) → p.given m ≡ Some s → (a : SimpleType) × (p.metas m ≡ Some a) × SimplyTyped (closed constants p.metas) s a)
    × ((m : ℕ) (a : SimpleType) → p.metas m ≡ Some a → HasFinalResult a)
