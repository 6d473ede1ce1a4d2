-- Some equations, worked out by hand: what may not be answered, and the corner at a monad.
use Rattle.std.specs.Prelude.{ℕ, suc, ◌≡◌, List, [], ◌∷◌, Some, None}
use Rattle.clf_syntax.specs.declared.tree.Mode.{Mode}
use Rattle.clf_syntax.specs.declared.tree.Head.TheVariants.{Const, Var, Meta}
use Rattle.clf_syntax.specs.Tree.{PlainObject, lam, atomic, head_alone, app}
use Rattle.clf_syntax.specs.TypeTree.{SimpleType, base, arrow, lax, SimpleTelescope}
use Rattle.clf_syntax.specs.Simple.{Assignment, EtaLong}
use Rattle.hered_subst.specs.Substitution.{Substituted}
use Rattle.trace_equal.specs.Exchange.{Joined}
use Rattle.subst_laws.specs.Environments.{Instantiation, instant}
use Rattle.eta_laws.specs.Eta.{eta}
use Rattle.store_laws.specs.Additions.{set}
use Rattle.pattern_laws.specs.Instantiations.{Types, Instantiated}
use Rattle.pattern_laws.specs.Equations.{Equation, Solves, Listed}
use Rattle.unify_laws.specs.Problems.{Problem}
use Rattle.reach_laws.specs.Rest.{Rest}
use Rattle.reach_laws.specs.Unified.{Unified, Clashed}

-- the metavariables all have the family 0 as their type, the constants all the type of functions of it to it
abbrev pub bases : Types
bases k = Some (base 0)

abbrev pub ones : Mode → Types
ones m k = Some (arrow m (base 0) (base 0))

-- ?0 = s ?0
abbrev pub circle : Mode → Equation
circle m = record { locals = []; left = atomic (head_alone (Meta 0)); right = atomic (app m (head_alone (Const 0)) (atomic (head_alone (Meta 0)))); type = base 0 }

abbrev pub circle_start : Mode → Problem
circle_start m = record { metas = bases; given = λ k. None; equations = circle m ∷ [] }

-- the store in which ?0 is solved by `s ?0`
abbrev pub circular : Mode → Problem
circular m = record { metas = bases; given = set 0 (atomic (app m (head_alone (Const 0)) (atomic (head_alone (Meta 0))))) (λ k. None); equations = circle m ∷ [] }

-- `?0 = s ?0` is not answered by a store that goes in a circle.
abbrev pub CircleIsNoAnswer : Type 0
CircleIsNoAnswer = (m : Mode) (left : List Equation) → Unified (ones m) (circle_start m) (circular m) left → ⊥

-- A clash is named at the part that differs: `s x = s y` is no clash, whatever x and y are.
abbrev pub ClashIsAtPart : Type 0
ClashIsAtPart = (constants : Types) (start now : Problem) (under : ℕ) (m : Mode) (x y : PlainObject)
    → Clashed constants start now under (atomic (app m (head_alone (Const 0)) x)) (atomic (app m (head_alone (Const 0)) y)) → ⊥

-- Nothing is left of no equations.
abbrev pub NothingForeignIsLeft : Type 0
NothingForeignIsLeft = (constants metas : Types) (e : Equation) (left : List Equation) → Rest constants metas [] left → Listed e left → ⊥

-- s (?0 x) = s x, and its part ?0 x = x
abbrev pub with_pattern : Mode → Equation
with_pattern m = record { locals = (m, base 0) ∷ []; left = atomic (app m (head_alone (Const 0)) (atomic (app m (head_alone (Meta 0)) (atomic (head_alone (Var 0)))))); right = atomic (app m (head_alone (Const 0)) (atomic (head_alone (Var 0)))); type = base 0 }

abbrev pub pattern : Mode → Equation
pattern m = record { locals = (m, base 0) ∷ []; left = atomic (app m (head_alone (Meta 0)) (atomic (head_alone (Var 0)))); right = atomic (head_alone (Var 0)); type = base 0 }

-- Nothing is left of `s (?0 x) = s x`: its part has the simple type that s asks for, and is in reach.
abbrev pub PatternIsNotLeft : Type 0
PatternIsNotLeft = (m : Mode) (left : List Equation) (e : Equation) → Rest (ones m) (ones m) (with_pattern m ∷ []) left → Listed e left → ⊥

-- ?0 := \x. x ?1, for ?1 at a monad
abbrev pub cornered : Mode → Instantiation
cornered m = set 0 (lam m (atomic (app m (head_alone (Var 0)) (atomic (head_alone (Meta 1)))))) (λ k. None)

-- x ?1, and x with the eta-long form of ?1
abbrev pub corner : Mode → PlainObject → PlainObject
corner m o = atomic (app m (head_alone (Var 0)) o)

-- `?0 x = x ?1` with ?1 at a monad: after `?0 := \x. x ?1` the left side is `x {let {p} = ?1 in p}`. That is not joined with `x ?1`, though whatever eta-long object ?1 becomes makes both the same.
pub record CornerAtMonad : Type 0 where
  pub becomes : (m : Mode) (ts : SimpleTelescope) → Instantiated 1 (cornered m) (atomic (app m (head_alone (Meta 0)) (eta (arrow m (lax ts) (base 0)) (head_alone (Var 0))))) (corner m (eta (lax ts) (head_alone (Meta 1))))
  pub unjoined : (m : Mode) (ts : SimpleTelescope) → Joined (corner m (eta (lax ts) (head_alone (Meta 1)))) (corner m (atomic (head_alone (Meta 1)))) → ⊥
  pub solved : (m : Mode) (ts : SimpleTelescope) (g : Assignment) (t : Instantiation) (o : PlainObject) → EtaLong g o (lax ts) → Instantiated 1 t (atomic (head_alone (Meta 1))) o
      → Solves (instant t) (record { locals = (m, arrow m (lax ts) (base 0)) ∷ []; left = corner m (eta (lax ts) (head_alone (Meta 1))); right = corner m (atomic (head_alone (Meta 1))); type = base 0 })
