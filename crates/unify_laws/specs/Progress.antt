-- The invariant of unification: what holds between the problem at the start and the problem now.
use Rattle.std.specs.Prelude.{ℕ, Bool, ◌≡◌, ◌<◌, ◌⊎◌, List, Some}
use Rattle.clf_syntax.specs.declared.tree.Head.TheVariants.{Meta}
use Rattle.clf_syntax.specs.Tree.{atomic, head_alone}
use Rattle.clf_syntax.specs.TypeTree.{SimpleType}
use Rattle.subst_laws.specs.Environments.{Instantiation}
use Rattle.pattern_laws.specs.Instantiations.{Types}
use Rattle.pattern_laws.specs.Patterns.{IsFinal, Place, on, lams, arrows, masked}
use Rattle.unify_laws.specs.Problems.{Problem, WellTyped, Grows, Stays, KeepsSolutions}

-- Metavariable k came from j, which was there before and was given k on some of its arguments.
pub record CameFrom (metas : Types) (given : Instantiation) (k j : ℕ) : Type 0 where
  pub places : List Place
  pub mask : List Bool
  pub result : SimpleType
  pub before : j < k
  pub final : IsFinal result
  pub older : metas j ≡ Some (arrows places result)
  pub newer : metas k ≡ Some (arrows (masked 0 mask places) result)
  pub solution : given j ≡ Some (lams places (atomic (on (masked 0 mask places) (head_alone (Meta k)))))

-- Each metavariable was there, or came from another by taking arguments.
abbrev pub Traced : Types → Types → Instantiation → Type 0
Traced start metas given = (k : ℕ) (a : SimpleType) → metas k ≡ Some a → ((b : SimpleType) × (start k ≡ Some b)) ⊎ ((j : ℕ) × CameFrom metas given k j)

pub record Progress (constants : Types) (start now : Problem) : Type 0 where
  -- the equations stay as they were given
  pub same : now.equations ≡ start.equations
  -- all is simply typed
  pub typed : WellTyped constants now
  pub grows : Grows start.metas now.metas
  pub stays : Stays start.given now.given
  -- exactly the solutions are kept
  pub keeps : KeepsSolutions constants start now
  pub traced : Traced start.metas now.metas now.given
