-- Inner: what is judged of one equation while the store stays.
use Rattle.std.specs.Prelude.{◌≡◌, ◌<◌, ◌+◌, List, map, Option, Some, None}
use Rattle.clf_syntax.specs.declared.tree.Mode.{Mode}
use Rattle.clf_syntax.specs.Tree.{PlainObject, lam, PlainNeutral, PlainElimination, eliminated}
use Rattle.clf_syntax.specs.TypeTree.{SimpleType}
use Rattle.clf_syntax.specs.Simple.{Assignment, SimplyTypedNeutral}
use Rattle.trace_equal.specs.Exchange.{Joined}
use Rattle.pattern_laws.specs.Instantiations.{closed}
use Rattle.pattern_laws.specs.Equations.{Locals, Equation, Listed, TypedEquation}
use Rattle.unify_laws.specs.Parts.{SameShape, PartAt}
use Rattle.unify_laws.specs.Rigid.{size_neutral}
use Rattle.reach_laws.specs.Reach.{Reaches}
use Rattle.solver_laws.specs.Reduced.{LeftOver, Clashes, work_size}
use Rattle.celf_constraints.specs.Equated.{plain_equation}
use Rattle.metavars.specs.Stored.{Stored}
use Rattle.celf_unify.specs.declared.verdict.Verdict.{Verdict}
use Rattle.celf_unify.specs.declared.verdict.Verdict.TheVariants as verdict
use Rattle.celf_unify.specs.Gathered.{consts_in, metas_in, StepOf}
use Rattle.celf_unify.specs.Sided.{LacksMetaHead}
use Rattle.celf_unify.specs.Examined.{TakenApart}

abbrev pub Judges : Stored → Equation → Verdict → Type 0
Judges s e (verdict.Parts ds) = TakenApart (consts_in s) (metas_in s) e (map plain_equation ds.items)
Judges s e verdict.Left = LeftOver (consts_in s) (metas_in s) e
Judges s e verdict.Clash = Clashes (consts_in s) (metas_in s) e
Judges s e (verdict.Step step) = StepOf (consts_in s) (metas_in s) e step

-- The left side of the equation does not reach the right one.
abbrev pub NotReached : Stored → Equation → Type 0
NotReached s e = Reaches (closed (consts_in s) (metas_in s)) e.locals e.type e.left e.right → ⊥

-- The equation is typed, its sides are not joined, and no metavariable is the head of one.
pub record IsRigid (s : Stored) (e : Equation) : Type 0 where
  pub typed : TypedEquation (consts_in s) (metas_in s) e
  pub unjoined : Joined e.left e.right → ⊥
  pub left : LacksMetaHead e.left
  pub right : LacksMetaHead e.right

abbrev pub IsLambda : PlainObject → PlainObject → Type 0
IsLambda o b = (m : Mode) × (o ≡ lam m b)

-- Two neutrals of the same shape, the first of which has this type: the equations are those of their arguments.
pub record Matched (g : Assignment) (ls : Locals) (r n : PlainNeutral) (t : SimpleType) (ds : List Equation) : Type 0 where
  pub typed : SimplyTypedNeutral g r t
  pub shape : SameShape r n
  pub all : (o u : PlainObject) (c : SimpleType) → PartAt g o u c r n → Listed (record { locals = ls; left = o; right = u; type = c }) ds
  pub only : (e : Equation) → Listed e ds → (e.locals ≡ ls) × PartAt g e.left e.right e.type r n
  pub smaller : work_size ds < size_neutral r + size_neutral n

-- What is found of two neutrals, the first of which is typed: their shapes differ, or they are matched.
abbrev pub Matches : Assignment → Locals → PlainNeutral → PlainNeutral → Option (SimpleType × List Equation) → Type 0
Matches g ls r n None = SameShape r n → ⊥
Matches g ls r n (Some found) = Matched g ls r n found.0 found.1

-- The same under one elimination more on each.
abbrev pub MatchesOn : SimpleType → List Equation → Locals → PlainElimination → PlainElimination → Option (SimpleType × List Equation) → Type 0
MatchesOn t ds ls e f found = (g : Assignment) (r n : PlainNeutral) (u : SimpleType) → Matched g ls r n t ds → SimplyTypedNeutral g (eliminated e r) u → Matches g ls (eliminated e r) (eliminated f n) found

-- What is found of two neutrals: their shapes differ, or the equations are those of their arguments.
abbrev pub Pairs : Assignment → Locals → PlainNeutral → PlainNeutral → Option (List Equation) → Type 0
Pairs g ls r n None = SameShape r n → ⊥
Pairs g ls r n (Some ds) = (t : SimpleType) × Matched g ls r n t ds
