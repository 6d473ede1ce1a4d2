-- When types type a store and its solutions, and what a call may answer that puts them in.
use Rattle.std.specs.Prelude.{ℕ, ◌≡◌, List, Some, None, Result, Ok, Err}
use Rattle.std.specs.List.{slice_get}
use Rattle.clf_syntax.specs.declared.tree.Head.TheVariants.{Const, Var, Meta}
use Rattle.clf_syntax.specs.declared.fault.OrWide.{OrWide}
use Rattle.clf_syntax.specs.declared.fault.OrWide.TheVariants.{Fault, NoMemory, TooFar}
use Rattle.clf_syntax.specs.Tree.{PlainObject}
use Rattle.clf_syntax.specs.TypeTree.{SimpleType}
use Rattle.clf_syntax.specs.Simple.{Assignment, SimplyTyped}
use Rattle.clf_syntax.specs.Wide.{IsWide}
use Rattle.store_laws.specs.Additions.{Addition, meta_types, given}
use Rattle.metavars.specs.declared.instance.Untyped.{Untyped}

-- the same constants and metavariables, and no variables
abbrev pub without_variables : Assignment → Assignment
without_variables z (Const c) = z (Const c)
without_variables z (Var i) = None
without_variables z (Meta m) = z (Meta m)

-- Each metavariable of the store has its simple type, and so has each solution, without variables.
pub record TypesStore (z : Assignment) (zs : List Addition) : Type 0 where
  pub metavariables : (m : ℕ) (t : SimpleType) → slice_get (meta_types zs) m ≡ Some t → z (Meta m) ≡ Some t
  pub solutions : (m : ℕ) (o : PlainObject) → given zs m ≡ Some o → (t : SimpleType) × (slice_get (meta_types zs) m ≡ Some t) × SimplyTyped (without_variables z) o t

-- What is answered is such, and it is not refused as untyped.
abbrev pub Keeps : {X : Type 0} → Result X (OrWide Untyped) → (X → Type 0) → Type 0
Keeps (Ok x) P = P x
Keeps (Err (Fault u)) P = ⊥
Keeps (Err NoMemory) P = Unit {0}
Keeps (Err (TooFar w)) P = Unit {0}

-- untyped, lack of memory, which is free, or of numbers
abbrev pub IsUntypedOrWant : OrWide Untyped → Type 0
IsUntypedOrWant (Fault u) = Unit {0}
IsUntypedOrWant NoMemory = Unit {0}
IsUntypedOrWant (TooFar w) = IsWide w
