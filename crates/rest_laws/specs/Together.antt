-- What several calls of unification come to together.
use Rattle.std.specs.Prelude.{ℕ, Bool, List}
use Rattle.subst_laws.specs.Environments.{Instantiation}
use Rattle.pattern_laws.specs.Instantiations.{Types}
use Rattle.pattern_laws.specs.Equations.{Equation}
use Rattle.unify_laws.specs.Problems.{Problem}
use Rattle.reach_laws.specs.Rest.{EachUnder, Rest, Tight}
use Rattle.reach_laws.specs.Unified.{HoldsUnsolved, IsPutIn}

-- With all solutions put in, by s, the equations es are us, whose rest is left; what the solutions give the metavariables that were unsolved at the start is tight for these.
pub record EndsTogether (constants : Types) (start now : Problem) (es left : List Equation) (s : Instantiation) (us : List Equation) : Type 0 where
  pub put_in : IsPutIn constants now.metas now.given s
  pub under : EachUnder s es us
  pub rest : Rest constants now.metas us left
  pub tight : (list : ℕ → Bool) → HoldsUnsolved start list → Tight constants now.metas list s
