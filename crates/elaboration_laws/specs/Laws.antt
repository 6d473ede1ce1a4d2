-- Laws of elaborations, as statements; the functions of the crate's `laws` state them.
use Rattle.std.specs.Prelude.{List, []}
use Rattle.clf_syntax.specs.TypeTree.{PlainType}
use Rattle.clf_syntax.specs.Simple.{SimplyFormed}
use Rattle.use_contexts.specs.Context.{Context}
use Rattle.hered_subst.specs.Substitution.{Environment, SubstitutedType}
use Rattle.subst_laws.specs.Environments.{Instantiation, instant}
use Rattle.joined_laws.specs.JoinedTypes.{JoinedType}
use Rattle.clf_sig.specs.Entry.{PlainSignature}
use Rattle.clf_rules.specs.WellFormed.{WellFormedType, WellFormedSignature}
use Rattle.typing_laws.specs.SimpleTyping.{families_of}
use Rattle.pattern_laws.specs.Instantiations.{Types, closed, Instantiates}
use Rattle.pattern_laws.specs.Equations.{Equation, SolvesEach, TypedEquations}
use Rattle.unify_laws.specs.Problems.{Problem, KeepsSolutions, Grows}
use Rattle.reach_laws.specs.Unified.{IsPutIn}
use Rattle.gathering.specs.Items.{TypeGathers}
use Rattle.elaboration_laws.specs.ItemSetting.{item_constants, item_setting, ReadTypes}
use Rattle.elaboration_laws.specs.InFront.{ElaboratesType}
use Rattle.elaboration_laws.specs.General.{fresh_problem}

-- The tree of a declared type with what is gathered of it: it conforms to simple types, and so the equations have them. (What does not conform is refused before.)
pub record IsGathered (sig : PlainSignature) (xs : List PlainType) (metas : Types) (tree : PlainType) (q : List Equation) : Type 0 where
  pub read : ReadTypes sig xs metas
  pub formed : SimplyFormed (families_of sig) (closed (item_constants sig xs) metas) tree
  pub typed : TypedEquations (item_constants sig xs) metas q
  pub gathers : TypeGathers sig (item_setting sig xs metas) [] [] tree q

-- A well-formed elaboration solves what is gathered of the tree.
abbrev pub WellFormedElaborationSolves : Type 0
WellFormedElaborationSolves = (sig : PlainSignature) (xs : List PlainType) (metas : Types) (tree : PlainType) (q : List Equation) → WellFormedSignature sig → IsGathered sig xs metas tree q
    → (front : Context) (b : PlainType) (elaboration : ElaboratesType sig xs metas tree front b) → WellFormedType sig front b → SolvesEach (instant elaboration.fills) q

-- An elaboration is an instance of a core: other objects, filled in for the core's metavariables over the same parameters, give a type that is joined with it when
-- the same variables are put in front.
pub record IsInstanceOf (sig : PlainSignature) (xs : List PlainType) (metas parameters : Types) (put : Environment) (core b : PlainType) : Type 0 where
  pub fills : Instantiation
  pub filled : PlainType
  pub elaborated : PlainType
  pub instantiates : Instantiates (item_constants sig xs) metas parameters fills
  pub filling : SubstitutedType (instant fills) core filled
  pub putting : SubstitutedType put filled elaborated
  pub joined : JoinedType b elaborated

-- Each well-formed elaboration of a declared type is an instance of the core, which is the tree with all solutions put in that unification found for its equations.
abbrev pub ElaborationsAreInstances : Type 0
ElaborationsAreInstances = (sig : PlainSignature) (xs : List PlainType) (metas : Types) (tree core : PlainType) (q : List Equation) → WellFormedSignature sig → IsGathered sig xs metas tree q
    → (now : Problem) (s : Instantiation) → KeepsSolutions (item_constants sig xs) (fresh_problem metas q) now → Grows metas now.metas
    → IsPutIn (item_constants sig xs) now.metas now.given s → SubstitutedType (instant s) tree core
    → (front : Context) (b : PlainType) (elaboration : ElaboratesType sig xs metas tree front b) → WellFormedType sig front b
    → IsInstanceOf sig xs now.metas elaboration.parameters elaboration.put core b
