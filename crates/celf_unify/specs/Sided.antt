-- Inner: what an equation says where it is looked at from its left side.
use Rattle.std.specs.Prelude.{ℕ, ◌≡◌, List}
use Rattle.clf_syntax.specs.declared.tree.Head.TheVariants.{Meta}
use Rattle.clf_syntax.specs.declared.tree.SimpleEntry.{SimpleEntry}
use Rattle.clf_syntax.specs.Tree.{PlainObject, atomic, PlainNeutral, head_of}
use Rattle.clf_syntax.specs.TypeTree.{SimpleType}
use Rattle.clf_syntax.specs.declared.tree.Obj.{Obj}
use Rattle.clf_syntax.specs.Plain.{plain_obj}
use Rattle.trace_equal.specs.Exchange.{Joined}
use Rattle.metavars.specs.Stored.{Stored}
use Rattle.pattern_laws.specs.Instantiations.{Types, closed}
use Rattle.pattern_laws.specs.Equations.{Equation, TypedEquation}
use Rattle.pattern_laws.specs.Patterns.{Place, inverted}
use Rattle.reach_laws.specs.Reach.{Reaches}
use Rattle.solver_laws.specs.Reduced.{Clashes}
use Rattle.solver_laws.specs.Steps.{Assigns, Narrows}
use Rattle.celf_constraints.specs.Equated.{plain_locals}
use Rattle.celf_constraints.specs.Reading.{plain_places}
use Rattle.celf_reach.specs.declared.answer.Reach.{Reach}
use Rattle.celf_reach.specs.declared.answer.Reach.TheVariants as reach
use Rattle.celf_unify.specs.declared.step.Step.{Step}
use Rattle.celf_unify.specs.declared.step.Step.TheVariants.{Assign, Narrow}
use Rattle.celf_unify.specs.declared.side.Sided.{Sided}
use Rattle.celf_unify.specs.declared.side.Sided.TheVariants as sided
use Rattle.celf_unify.specs.Gathered.{consts_in, metas_in}

-- The object is a neutral whose head is the metavariable.
abbrev pub HasMetaHead : PlainObject → ℕ → Type 0
HasMetaHead o m = (n : PlainNeutral) × (o ≡ atomic n) × (head_of n ≡ Meta m)

-- No metavariable is its head.
abbrev pub LacksMetaHead : PlainObject → Type 0
LacksMetaHead o = (m : ℕ) → HasMetaHead o m → ⊥

-- The step follows from the equation, looked at from its left side.
abbrev pub StepOfLeft : Types → Types → Equation → Step → Type 0
StepOfLeft constants metas e (Assign m o) = Assigns constants metas e m (plain_obj o)
StepOfLeft constants metas e (Narrow k mask) = (zs : List Place) × (c : SimpleType) × Narrows constants metas e k mask.items zs c

-- what the left side says
abbrev pub SaysLeft : Types → Types → Equation → Sided → Type 0
SaysLeft constants metas e sided.Nothing = Reaches (closed constants metas) e.locals e.type e.left e.right → ⊥
SaysLeft constants metas e sided.Clash = Clashes constants metas e
SaysLeft constants metas e (sided.Step step) = StepOfLeft constants metas e step

-- What is made of an answer, where the side is metavariable m, n locals are around the equation, and this is the other side.
abbrev pub IsSaid : ℕ → ℕ → PlainObject → Reach → Sided → Type 0
IsSaid m n other reach.No s = s ≡ sided.Nothing
IsSaid m n other reach.Clash s = s ≡ sided.Clash
IsSaid m n other (reach.Same mask) s = s ≡ sided.Step (Narrow m mask)
IsSaid m n other (reach.Prune k mask) s = s ≡ sided.Step (Narrow k mask)
IsSaid m n other (reach.Assign p) s = (o : Obj) × (s ≡ sided.Step (Assign p.meta o)) × (plain_obj o ≡ inverted n (plain_places p) other)

-- the equation of two sides of this type over these locals
abbrev pub posed : List SimpleEntry → SimpleType → PlainObject → PlainObject → Equation
posed locals t side other = record { locals = plain_locals locals; left = side; right = other; type = t }

-- The equation is typed in the store, and its sides are not joined.
pub record IsPosed (s : Stored) (e : Equation) : Type 0 where
  pub typed : TypedEquation (consts_in s) (metas_in s) e
  pub unjoined : Joined e.left e.right → ⊥
