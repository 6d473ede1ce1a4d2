-- What unification answers: the clauses of the call.
use Rattle.std.specs.Prelude.{ℕ, ◌≡◌, ◌⊎◌, Bool, true, List, length, Some, None}
use Rattle.clf_syntax.specs.Tree.{PlainObject}
use Rattle.clf_syntax.specs.TypeTree.{SimpleType}
use Rattle.subst_laws.specs.Environments.{Instantiation, instant}
use Rattle.pattern_laws.specs.Instantiations.{Types, closed, Instantiates, Agrees}
use Rattle.store_laws.specs.PutIn.{PutIn}
use Rattle.pattern_laws.specs.Equations.{Equation, Solves, Listed}
use Rattle.unify_laws.specs.Problems.{Problem, WellTyped, Grows, Stays, KeepsSolutions, HasNone}
use Rattle.unify_laws.specs.Progress.{Traced}
use Rattle.reach_laws.specs.Rest.{IsAssignment, PartOf, GoesNoFurther, EquationUnder, EachUnder, Rest, Tight}
use Rattle.reach_laws.specs.Sources.{FromPlaces, FromSide}

-- Metavariables and solutions are only added, and all stays simply typed. The equations are those given.
pub record OnlyAdds (constants : Types) (start now : Problem) : Type 0 where
  pub same : now.equations ≡ start.equations
  pub grows : Grows start.metas now.metas
  pub stays : Stays start.given now.given
  pub typed : WellTyped constants now

-- The list holds the metavariables that were unsolved at the start, and none that was not there.
pub record HoldsUnsolved (start : Problem) (list : ℕ → Bool) : Type 0 where
  pub all : (m : ℕ) (a : SimpleType) → start.metas m ≡ Some a → start.given m ≡ None → list m ≡ true
  pub there : (m : ℕ) → list m ≡ true → (a : SimpleType) × (start.metas m ≡ Some a)

-- s is the solutions with all solutions put in: an assignment, of which each instantiation that agrees with the solutions is an instance.
pub record IsPutIn (constants metas : Types) (given s : Instantiation) : Type 0 where
  pub put_in : PutIn given s
  pub assigns : IsAssignment constants metas s
  pub instances : (parameters : Types) (t : Instantiation) → Instantiates constants metas parameters t → Agrees t given → Agrees t s

-- With all solutions put in, by s, the given equations are es, whose rest is left; what the solutions give the metavariables that were unsolved at the start is tight for these; and it is said where the solutions came from.
pub record EndsWith (constants : Types) (start now : Problem) (left : List Equation) (s : Instantiation) (es : List Equation) : Type 0 where
  pub put_in : IsPutIn constants now.metas now.given s
  pub under : EachUnder s start.equations es
  pub rest : Rest constants now.metas es left
  pub tight : (list : ℕ → Bool) → HoldsUnsolved start list → Tight constants now.metas list s
  -- Each solution that was added came from the sides of the equations, or is a new metavariable on arguments.
  pub sources : (m : ℕ) (o : PlainObject) → start.given m ≡ None → now.given m ≡ Some o → FromPlaces o ⊎ FromSide constants now.metas start.equations s o

-- After solved, with no equation left, and after stuck: exactly the solutions are kept.
pub record Unified (constants : Types) (start now : Problem) (left : List Equation) : Type 0 where
  pub adds : OnlyAdds constants start now
  pub keeps : KeepsSolutions constants start now
  pub traced : Traced start.metas now.metas now.given
  pub ends : (s : Instantiation) × (es : List Equation) × EndsWith constants start now left s es

-- The two objects are a part of a given equation after some assignment, under as many locals and binders, from which the rules lead no further, and no instantiation over any parameters joins them.
pub record ClashAt (constants : Types) (start now : Problem) (under : ℕ) (left right : PlainObject) : Type 0 where
  pub assignment : Instantiation
  pub assigns : IsAssignment constants now.metas assignment
  pub equation : Equation
  pub after : Equation
  pub part : Equation
  pub listed : Listed equation start.equations
  pub is_under : EquationUnder assignment equation after
  pub is_part : PartOf constants now.metas after part
  pub no_further : GoesNoFurther part
  pub binders : length part.locals ≡ under
  pub is_left : part.left ≡ left
  pub is_right : part.right ≡ right
  pub unsolved : (parameters : Types) (t : Instantiation) → Instantiates constants now.metas parameters t → Solves (instant t) part → ⊥

-- After clash: no solution was there, and the clash is at such a part.
pub record Clashed (constants : Types) (start now : Problem) (under : ℕ) (left right : PlainObject) : Type 0 where
  pub adds : OnlyAdds constants start now
  pub none : HasNone constants start
  pub at : ClashAt constants start now under left right
