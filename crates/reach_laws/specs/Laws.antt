-- Laws of reach and rest, as statements; the functions of the crate's `laws` state them.
use Rattle.std.specs.Prelude.{ℕ, Bool, false, ◌≡◌, List, ◌++◌, Some, None}
use Rattle.clf_syntax.specs.Tree.{PlainObject}
use Rattle.clf_syntax.specs.TypeTree.{SimpleType}
use Rattle.clf_syntax.specs.Simple.{SimplyTyped}
use Rattle.hered_subst.specs.Substitution.{Substituted}
use Rattle.subst_laws.specs.Environments.{Instantiation, instant, ComposedInstantiation}
use Rattle.store_laws.specs.Mentions.{mentions}
use Rattle.store_laws.specs.Additions.{set}
use Rattle.pattern_laws.specs.Instantiations.{Types, closed, Instantiates}
use Rattle.store_laws.specs.PutIn.{PutIn}
use Rattle.pattern_laws.specs.Equations.{Equation, SolvesEach, TypedEquation, TypedEquations, Listed}
use Rattle.unify_laws.specs.Problems.{Problem, WellTyped, Grows, Stays, KeepsSolutions}
use Rattle.unify_laws.specs.Progress.{Traced}
use Rattle.reach_laws.specs.Rest.{IsAssignment, ComesDown, PartOf, EquationUnder, EachUnder, Rest, Tight}
use Rattle.reach_laws.specs.Sources.{FromSide, MadeOfSide}
use Rattle.reach_laws.specs.Unified.{HoldsUnsolved, IsPutIn, Unified}

-- What the solutions give the metavariables that were unsolved at the start is tight for these, where solutions are only added and each new metavariable came from another.
abbrev pub IsTight : Type 0
IsTight = (constants : Types) (start now : Problem) → WellTyped constants start → Stays start.given now.given → Traced start.metas now.metas now.given → (s : Instantiation) → PutIn now.given s
    → IsAssignment constants now.metas s → WellTyped constants now → (list : ℕ → Bool) → HoldsUnsolved start list → Tight constants now.metas list s

-- With one more solution, which mentions nothing that is solved once all solutions are put in, there is again an assignment with all solutions put in.
abbrev pub PutInAgain : Type 0
PutInAgain = (constants metas : Types) (given s : Instantiation) → IsPutIn constants metas given s
    → ((k : ℕ) (u : PlainObject) → given k ≡ Some u → (b : SimpleType) × (metas k ≡ Some b) × SimplyTyped (closed constants metas) u b)
    → (m : ℕ) (o x : PlainObject) (a : SimpleType) → given m ≡ None → metas m ≡ Some a → SimplyTyped (closed constants metas) o a → Substituted (instant s) o x
    → mentions m x ≡ false → ((k : ℕ) (u : PlainObject) → given k ≡ Some u → mentions k x ≡ false)
    → (v : Instantiation) × IsPutIn constants metas (set m o given) v

-- An instantiation solves typed equations exactly where it solves their rest.
abbrev pub RestSolves : Type 0
RestSolves = (constants metas parameters : Types) (t : Instantiation) → Instantiates constants metas parameters t → (es left : List Equation) → TypedEquations constants metas es → Rest constants metas es left
    → (SolvesEach (instant t) es → SolvesEach (instant t) left) × (SolvesEach (instant t) left → SolvesEach (instant t) es)

-- After solved and stuck the solutions with the equations left have exactly the solutions that were there.
abbrev pub LeftKeeps : Type 0
LeftKeeps = (constants : Types) (start now : Problem) (left : List Equation) → Unified constants start now left
    → KeepsSolutions constants start (record { metas = now.metas; given = now.given; equations = left })

-- A part of an equation is typed as the equation is, and with solutions put in it is a part of the equation with solutions put in.
abbrev pub PartsStay : Type 0
PartsStay = (constants metas : Types) (e d : Equation) → PartOf constants metas e d → TypedEquation constants metas e
    → TypedEquation constants metas d
    × ((s : Instantiation) → IsAssignment constants metas s → (u v : Equation) → EquationUnder s e u → EquationUnder s d v → PartOf constants metas u v)

-- What comes down to equations that come down to others comes down to these.
abbrev pub DownFurther : Type 0
DownFurther = (constants metas : Types) (l k : List Equation) → ((d : Equation) → Listed d l → ComesDown constants metas k d) → (e : Equation) → ComesDown constants metas l e → ComesDown constants metas k e
