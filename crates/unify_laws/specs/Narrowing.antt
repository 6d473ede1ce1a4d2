-- Taking arguments from a metavariable.
use Rattle.std.specs.Prelude.{ℕ, Bool, List}
use Rattle.clf_syntax.specs.declared.tree.Head.TheVariants.{Meta}
use Rattle.clf_syntax.specs.Tree.{atomic, head_alone}
use Rattle.clf_syntax.specs.TypeTree.{SimpleType}
use Rattle.subst_laws.specs.Environments.{Instantiation}
use Rattle.store_laws.specs.Additions.{set}
use Rattle.pattern_laws.specs.Instantiations.{Types}
use Rattle.pattern_laws.specs.Equations.{Equation}
use Rattle.pattern_laws.specs.Patterns.{Place, on, lams, arrows, masked}
use Rattle.unify_laws.specs.Problems.{Problem}

-- the problem in which metavariable k is the new metavariable k' on the places of the mask
abbrev pub narrowed_by : Types → Instantiation → List Equation → ℕ → ℕ → List Bool → List Place → SimpleType → Problem
narrowed_by metas given es k k' bs ps a = record { metas = set k' (arrows (masked 0 bs ps) a) metas; given = set k (lams ps (atomic (on (masked 0 bs ps) (head_alone (Meta k'))))) given; equations = es }
