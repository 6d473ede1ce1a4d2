-- Equations between objects, and what solves them.
use Rattle.std.specs.Prelude.{List, [], ◌∷◌, length}
use Rattle.clf_syntax.specs.declared.tree.Mode.{Mode}
use Rattle.clf_syntax.specs.Tree.{PlainObject}
use Rattle.clf_syntax.specs.TypeTree.{SimpleType}
use Rattle.clf_syntax.specs.Simple.{Assignment, extended, SimplyTyped}
use Rattle.hered_subst.specs.Substitution.{Environment, under, Substituted}
use Rattle.trace_equal.specs.Exchange.{Joined}
use Rattle.pattern_laws.specs.Instantiations.{Types, closed}

-- the modes and simple types of the variables in scope, the newest first
abbrev pub Locals : Type 0
Locals = List (Mode × SimpleType)

-- an assignment with local variables in front
abbrev pub scoped : Locals → Assignment → Assignment
scoped [] g = g
scoped (l ∷ ls) g = extended l.1 (scoped ls g)

-- two objects of one simple type, over the same locals
pub record Equation : Type 0 where
  pub locals : Locals
  pub left : PlainObject
  pub right : PlainObject
  pub type : SimpleType

-- An environment solves an equation where it makes the sides joined, under the locals. Of an instantiation t this is `instant t`.
abbrev pub Solves : Environment → Equation → Type 0
Solves s e = (x y : PlainObject) × Substituted (under (length e.locals) s) e.left x × Substituted (under (length e.locals) s) e.right y × Joined x y

abbrev pub SolvesEach : Environment → List Equation → Type 0
SolvesEach s [] = Unit {0}
SolvesEach s (e ∷ es) = Solves s e × SolvesEach s es

-- Both sides have the simple type of the equation.
abbrev pub TypedEquation : Types → Types → Equation → Type 0
TypedEquation constants metas e = SimplyTyped (scoped e.locals (closed constants metas)) e.left e.type × SimplyTyped (scoped e.locals (closed constants metas)) e.right e.type

abbrev pub TypedEquations : Types → Types → List Equation → Type 0
TypedEquations constants metas [] = Unit {0}
TypedEquations constants metas (e ∷ es) = TypedEquation constants metas e × TypedEquations constants metas es

-- The equation is one of the list.
pub data Listed (e : Equation) : List Equation → Type 0 where
  listed_here : {es : List Equation} → Listed e (e ∷ es)
  listed_later : {d : Equation} {es : List Equation} → Listed e es → Listed e (d ∷ es)
