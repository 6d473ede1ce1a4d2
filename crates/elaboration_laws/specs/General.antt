-- What unification finds is most general: each solution is an instance of it.
use Rattle.std.specs.Prelude.{List, None}
use Rattle.clf_syntax.specs.Tree.{PlainObject}
use Rattle.clf_syntax.specs.TypeTree.{PlainType, PlainTelescope, PlainKind, SimpleType}
use Rattle.clf_syntax.specs.Simple.{Families, SimplyTyped, SimplyFormed, SimplyFormedTelescope, SimplyFormedKind}
use Rattle.hered_subst.specs.Substitution.{Substituted, SubstitutedType, SubstitutedTelescope, SubstitutedKind}
use Rattle.trace_equal.specs.Exchange.{Joined}
use Rattle.subst_laws.specs.Environments.{Instantiation, instant}
use Rattle.joined_laws.specs.JoinedTypes.{JoinedType, JoinedTelescope, JoinedKind}
use Rattle.pattern_laws.specs.Instantiations.{Types, closed, Instantiates}
use Rattle.pattern_laws.specs.Equations.{Equation, SolvesEach}
use Rattle.unify_laws.specs.Problems.{Problem, KeepsSolutions, Grows}
use Rattle.reach_laws.specs.Unified.{IsPutIn}

-- What t makes of a tree is joined with what v makes of the tree with the solutions s put in.
pub record IsInstanceUnder (arguments : Families) (constants metas : Types) (s t v : Instantiation) : Type 0 where
  pub objects : (n m x : PlainObject) (a : SimpleType) → SimplyTyped (closed constants metas) n a → Substituted (instant s) n m → Substituted (instant t) n x → (y : PlainObject) × Substituted (instant v) m y × Joined x y
  pub types : (n m x : PlainType) → SimplyFormed arguments (closed constants metas) n → SubstitutedType (instant s) n m → SubstitutedType (instant t) n x → (y : PlainType) × SubstitutedType (instant v) m y × JoinedType x y
  pub telescopes : (n m x : PlainTelescope) → SimplyFormedTelescope arguments (closed constants metas) n → SubstitutedTelescope (instant s) n m → SubstitutedTelescope (instant t) n x → (y : PlainTelescope) × SubstitutedTelescope (instant v) m y × JoinedTelescope x y
  pub kinds : (n m x : PlainKind) → SimplyFormedKind arguments (closed constants metas) n → SubstitutedKind (instant s) n m → SubstitutedKind (instant t) n x → (y : PlainKind) × SubstitutedKind (instant v) m y × JoinedKind x y

-- The problem of equations whose metavariables have no solutions yet.
abbrev pub fresh_problem : Types → List Equation → Problem
fresh_problem metas q = record { metas = metas; given = λ m. None; equations = q }

-- Where the solutions of the equations are kept and s is all solutions put in, each instantiation over parameters that solves the equations goes on to one, v, of the
-- metavariables that are there then, under which what it makes is an instance of what s makes.
abbrev pub SolutionsAreInstances : Type 0
SolutionsAreInstances = (arguments : Families) (constants metas : Types) (q : List Equation) (now : Problem) (s : Instantiation)
    → KeepsSolutions constants (fresh_problem metas q) now → Grows metas now.metas → IsPutIn constants now.metas now.given s
    → (parameters : Types) (t : Instantiation) → Instantiates constants metas parameters t → SolvesEach (instant t) q
    → (v : Instantiation) × Instantiates constants now.metas parameters v × IsInstanceUnder arguments constants metas s t v
