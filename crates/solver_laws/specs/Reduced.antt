-- Equations that are taken apart while the store stays.
use Rattle.std.specs.Prelude.{ℕ, suc, ◌+◌, List, [], ◌∷◌}
use Rattle.subst_laws.specs.Environments.{instant, Instantiation}
use Rattle.trace_equal.specs.Exchange.{Joined}
use Rattle.pattern_laws.specs.Instantiations.{Types, Instantiates}
use Rattle.pattern_laws.specs.Equations.{Equation, Listed, Solves}
use Rattle.unify_laws.specs.Rigid.{size}
use Rattle.reach_laws.specs.Reach.{Stuck}
use Rattle.reach_laws.specs.Rest.{ComesDown, PartOf, GoesNoFurther}

-- The equations es come down to ds, each of which is a part of one of them.
pub record Reduced (constants metas : Types) (es ds : List Equation) : Type 0 where
  pub down : (e : Equation) → Listed e es → ComesDown constants metas ds e
  pub met : (e : Equation) → Listed e ds → (d : Equation) × Listed d es × PartOf constants metas d e

-- The equation is stuck, and its sides are not joined.
pub record LeftOver (constants metas : Types) (e : Equation) : Type 0 where
  pub stuck : Stuck constants metas e
  pub unjoined : Joined e.left e.right → ⊥

-- No instantiation over any parameters solves the equation, and the rules lead no further from it.
pub record Clashes (constants metas : Types) (e : Equation) : Type 0 where
  pub no_further : GoesNoFurther e
  pub unsolved : (parameters : Types) (t : Instantiation) → Instantiates constants metas parameters t → Solves (instant t) e → ⊥

-- how much there is to take apart
abbrev pub work_size : List Equation → ℕ
work_size [] = 0
work_size (e ∷ es) = suc (size e.left + size e.right) + work_size es
