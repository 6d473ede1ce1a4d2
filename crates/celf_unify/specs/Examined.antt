-- Inner: what comes of one equation while the store stays.
use Rattle.std.specs.Prelude.{◌≡◌, ◌<◌, List, [], ◌∷◌, length, map}
use Rattle.clf_syntax.specs.Plain.{plain_obj}
use Rattle.pattern_laws.specs.Instantiations.{Types}
use Rattle.pattern_laws.specs.Equations.{Equation}
use Rattle.solver_laws.specs.Reduced.{Reduced, LeftOver, Clashes, work_size}
use Rattle.celf_constraints.specs.Equated.{plain_equation}
use Rattle.metavars.specs.Stored.{Stored}
use Rattle.celf_unify.specs.declared.answer.Clash.{Clash}
use Rattle.celf_unify.specs.declared.examine.Examined.{Examined}
use Rattle.celf_unify.specs.declared.examine.Examined.TheVariants as examined
use Rattle.celf_unify.specs.Gathered.{consts_in, metas_in, StepOf}

-- The equation comes down to the parts, and these are less to take apart.
pub record TakenApart (constants metas : Types) (e : Equation) (ds : List Equation) : Type 0 where
  pub reduced : Reduced constants metas (e ∷ []) ds
  pub smaller : work_size ds < work_size (e ∷ [])

-- The sides of the equation clash as they stand.
pub record ClashOf (constants metas : Types) (e : Equation) (c : Clash) : Type 0 where
  pub clashes : Clashes constants metas e
  pub under : length e.locals ≡ c.under
  pub left : e.left ≡ plain_obj c.left
  pub right : e.right ≡ plain_obj c.right

abbrev pub Examines : Stored → Equation → Examined → Type 0
Examines s e (examined.Parts ds) = TakenApart (consts_in s) (metas_in s) e (map plain_equation ds.items)
Examines s e (examined.Left d) = (plain_equation d ≡ e) × LeftOver (consts_in s) (metas_in s) e
Examines s e (examined.Clash c) = ClashOf (consts_in s) (metas_in s) e c
Examines s e (examined.Step step d) = (plain_equation d ≡ e) × StepOf (consts_in s) (metas_in s) e step
