-- Laws of several calls of unification, and of where solutions come from, as statements; the functions of the crate's `laws` state them.
use Rattle.std.specs.Prelude.{ℕ, Bool, false, ◌≡◌, List, ◌++◌, Some, None}
use Rattle.clf_syntax.specs.Tree.{PlainObject}
use Rattle.clf_syntax.specs.TypeTree.{SimpleType}
use Rattle.clf_syntax.specs.Simple.{SimplyTyped}
use Rattle.hered_subst.specs.Substitution.{Substituted}
use Rattle.subst_laws.specs.Environments.{Instantiation, instant, ComposedInstantiation}
use Rattle.store_laws.specs.Mentions.{mentions}
use Rattle.store_laws.specs.Additions.{set}
use Rattle.pattern_laws.specs.Instantiations.{Types, closed, Instantiates}
use Rattle.store_laws.specs.PutIn.{PutIn}
use Rattle.pattern_laws.specs.Equations.{Equation, SolvesEach, TypedEquation, TypedEquations, Listed}
use Rattle.unify_laws.specs.Problems.{Problem, WellTyped, Grows, Stays, KeepsSolutions}
use Rattle.unify_laws.specs.Progress.{Traced}
use Rattle.reach_laws.specs.Rest.{IsAssignment, ComesDown, PartOf, EquationUnder, EachUnder, Rest, Tight}
use Rattle.reach_laws.specs.Sources.{FromSide, MadeOfSide}
use Rattle.reach_laws.specs.Unified.{HoldsUnsolved, IsPutIn, Unified}

-- Rests in turn: with an assignment s put into what is left of some equations, and into others, the rest of both together is the rest of all of them after s.
abbrev pub RestsInTurn : Type 0
RestsInTurn = (constants metas : Types) (s : Instantiation) → IsAssignment constants metas s → (es us left more vs ws final : List Equation)
    → TypedEquations constants metas es → Rest constants metas es left
    → EachUnder s es us → EachUnder s left vs → EachUnder s more ws → Rest constants metas (vs ++ ws) final
    → Rest constants metas (us ++ ws) final

-- Where metavariables came from, in turn, while solutions are only added.
abbrev pub TracedInTurn : Type 0
TracedInTurn = (start middle metas : Types) (before given : Instantiation) → Grows middle metas → Stays before given → Traced start middle before → Traced middle metas given → Traced start metas given

-- With all solutions put in, a solution that came from a side is a side, inverted, of a part of a given equation with all solutions put in.
-- So each property of objects that parts, renaming and abstraction keep goes from the given sides to the solutions.
abbrev pub SidePutIn : Type 0
SidePutIn = (constants metas : Types) (es : List Equation) (s : Instantiation) → IsAssignment constants metas s → TypedEquations constants metas es → (o x : PlainObject)
    → FromSide constants metas es s o → Substituted (instant s) o x → MadeOfSide constants metas es s x

-- What does what earlier solutions do and then itself still does so after one more solution is put in.
abbrev pub AbsorbedAgain : Type 0
AbsorbedAgain = (constants metas : Types) (earlier s only next : Instantiation) → IsAssignment constants metas earlier → IsAssignment constants metas s → IsAssignment constants metas only
    → ComposedInstantiation (closed constants metas) earlier s s → ComposedInstantiation (closed constants metas) s only next → ComposedInstantiation (closed constants metas) earlier next next
