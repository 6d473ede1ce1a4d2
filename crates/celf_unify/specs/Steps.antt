-- Inner: steps in memory, and what they make of a store.
use Rattle.std.specs.Prelude.{ℕ, Bool, ◌≡◌, ◌<◌, List, length, Some, None}
use Rattle.std.specs.List.{slice_get}
use Rattle.clf_syntax.specs.TypeTree.{SimpleType}
use Rattle.clf_syntax.specs.Tree.{PlainObject}
use Rattle.clf_syntax.specs.Simple.{Assignment, SimplyTyped}
use Rattle.clf_syntax.specs.Plain.{plain_obj}
use Rattle.subst_laws.specs.Environments.{Instantiation}
use Rattle.store_laws.specs.Additions.{Addition, meta_types, given}
use Rattle.store_laws.specs.PutIn.{PutIn, IsClosed}
use Rattle.pattern_laws.specs.Equations.{Equation}
use Rattle.pattern_laws.specs.Patterns.{IsFinal, Place, arrows}
use Rattle.reach_laws.specs.Rest.{EquationUnder}
use Rattle.solver_laws.specs.Steps.{assigned_more, narrowed_more}
use Rattle.metavars.specs.Stored.{Stored, constants, additions}
use Rattle.metavars.specs.Typed.{TypesStore}
use Rattle.celf_unify.specs.declared.step.Step.{Step}
use Rattle.celf_unify.specs.declared.step.Step.TheVariants.{Assign, Narrow}

-- The metavariable is there and unsolved, and its type is a function of places to a final type.
pub record HasArguments (s : Stored) (k : ℕ) : Type 0 where
  pub places : List Place
  pub result : SimpleType
  pub type : slice_get (meta_types (additions s)) k ≡ Some (arrows places result)
  pub final : IsFinal result
  pub there : k < length (meta_types (additions s))
  pub unsolved : given (additions s) k ≡ None

-- The metavariable of the step is there and unsolved.
abbrev pub MayTake : Stored → Step → Type 0
MayTake s (Assign m o) = (m < length (meta_types (additions s))) × (given (additions s) m ≡ None)
MayTake s (Narrow k mask) = HasArguments s k

-- A metavariable became a new one on the arguments of the mask.
pub record NarrowedTo (s : Stored) (k : ℕ) (mask : List Bool) (t : Stored) : Type 0 where
  pub same : constants t ≡ constants s
  pub more : (zs : List Place) (c : SimpleType) → slice_get (meta_types (additions s)) k ≡ Some (arrows zs c) → IsFinal c → additions t ≡ narrowed_more (additions s) k mask zs c

abbrev pub Takes : Stored → Step → Stored → Type 0
Takes s (Assign m o) t = (constants t ≡ constants s) × (additions t ≡ assigned_more (additions s) m (plain_obj o))
Takes s (Narrow k mask) t = NarrowedTo s k mask.items t

-- Some simple types that a store has type the object.
abbrev pub IsTypedThere : Stored → PlainObject → Type 0
IsTypedThere s o = (z : Assignment) × (t : SimpleType) × TypesStore z (additions s) × SimplyTyped z o t

-- The equation d is e with all solutions put in.
abbrev pub IsPutIn : List Addition → Equation → Equation → Type 0
IsPutIn zs e d = (s : Instantiation) → PutIn (given zs) s → IsClosed s → EquationUnder s e d
