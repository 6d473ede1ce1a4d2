-- Laws of directives, as statements. Their equations are solved over the constants of the signature alone: an implicit variable of a directive has become an
-- object of metavariables.
use Rattle.std.specs.Prelude.{ℕ, List, [], option_map}
use Rattle.clf_syntax.specs.Tree.{PlainObject}
use Rattle.clf_syntax.specs.Simple.{erase}
use Rattle.trace_equal.specs.Exchange.{Joined}
use Rattle.joined_laws.specs.JoinedTypes.{JoinedType, JoinedTelescope, JoinedKind}
use Rattle.subst_laws.specs.Environments.{Instantiation, instant}
use Rattle.clf_sig.specs.Entry.{PlainClass, family_of, constant_of, PlainSignature, constant_type}
use Rattle.clf_sig.specs.Core.{PlainCore, declares, queries, traces, equates, checks}
use Rattle.typing_laws.specs.SimpleTyping.{families_of}
use Rattle.pattern_laws.specs.Instantiations.{Types, closed, Instantiates}
use Rattle.pattern_laws.specs.Equations.{Equation}
use Rattle.unify_laws.specs.Problems.{Problem}
use Rattle.reach_laws.specs.Unified.{Unified, Clashed, IsPutIn}
use Rattle.elaboration_laws.specs.General.{fresh_problem}
use Rattle.celf_elaboration.specs.Items.{SubstitutedCore}
use Rattle.celf_elaboration.specs.Directives.{no_parameters, ElaboratesDirective, IsWellFormed}
use Rattle.gathered_laws.specs.Formed.{CoreIsFormed}
use Rattle.found_laws.specs.Laws.{constants_of}

-- Two cores are joined part by part. A name and a number of implicit arguments are looked at no further.
abbrev pub JoinedClass : PlainClass → PlainClass → Type 0
JoinedClass (family_of k) (family_of l) = JoinedKind k l
JoinedClass (constant_of a) (constant_of b) = JoinedType a b
JoinedClass (family_of k) (constant_of b) = ⊥
JoinedClass (constant_of a) (family_of l) = ⊥

abbrev pub JoinedCore : PlainCore → PlainCore → Type 0
JoinedCore (declares name e) (declares other d) = JoinedClass e.class d.class
JoinedCore (queries a) (queries b) = JoinedType a b
JoinedCore (traces s) (traces t) = JoinedTelescope s t
JoinedCore (equates m n a) (equates x y b) = Joined m x × Joined n y × JoinedType a b
JoinedCore (checks n a) (checks x b) = Joined n x × JoinedType a b
JoinedCore _ _ = ⊥

-- Closed objects, filled in for the metavariables of the core, make one of it that is joined with the elaboration.
pub record IsCoreInstance (sig : PlainSignature) (metas : Types) (core elaborated : PlainCore) : Type 0 where
  pub fills : Instantiation
  pub filled : PlainCore
  pub instantiates : Instantiates (λ c. option_map erase (constant_type sig c)) metas no_parameters fills
  pub filling : SubstitutedCore (instant fills) core filled
  pub joined : JoinedCore elaborated filled

-- Where the equations of a directive clash, it has no well-formed elaboration.
abbrev pub ClashHasNoDirective : Type 0
ClashHasNoDirective = (sig : PlainSignature) (metas : Types) (tree : PlainCore) (q : List Equation) (now : Problem) (under : ℕ) (left right : PlainObject)
    → Clashed (constants_of sig []) (fresh_problem metas q) now under left right
    → (elaborated : PlainCore) (elaboration : ElaboratesDirective sig metas tree elaborated) → IsWellFormed sig metas tree elaborated q elaboration → ⊥

-- Where they are solved, or come down to equations that are left, and s is all solutions put in: each well-formed elaboration is an instance of the tree with s put in.
abbrev pub FoundDirectiveIsMostGeneral : Type 0
FoundDirectiveIsMostGeneral = (sig : PlainSignature) (metas : Types) (tree : PlainCore) (q : List Equation) → CoreIsFormed (families_of sig) (closed (constants_of sig []) metas) tree
    → (now : Problem) (left : List Equation) → Unified (constants_of sig []) (fresh_problem metas q) now left
    → (s : Instantiation) → IsPutIn (constants_of sig []) now.metas now.given s → (core : PlainCore) → SubstitutedCore (instant s) tree core
    → (elaborated : PlainCore) (elaboration : ElaboratesDirective sig metas tree elaborated) → IsWellFormed sig metas tree elaborated q elaboration
    → IsCoreInstance sig now.metas core elaborated
