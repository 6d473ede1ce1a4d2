-- Inner: what becomes of neutrals and of steps, as contracts see it, and when what is given does not fit.
use Rattle.std.specs.Prelude.{◌≡◌, List, length, ℕ, Option, Some, Result, Ok, Err}
use Rattle.clf_syntax.specs.declared.tree.Mode.{Mode}
use Rattle.clf_syntax.specs.declared.tree.Head.TheVariants.{Meta}
use Rattle.clf_syntax.specs.declared.fault.OrWide.{OrWide}
use Rattle.clf_syntax.specs.declared.fault.OrWide.TheVariants.{Fault, NoMemory as WantsMemory, TooFar as PassesFar}
use Rattle.clf_syntax.specs.Tree.{PlainObject, lam, pair, monadic, atomic, PlainNeutral, app, fst, snd, PlainExpression, step, head_of}
use Rattle.clf_syntax.specs.TypeTree.{SimpleType, arrow, simple_with, lax, SimpleTelescope}
use Rattle.clf_syntax.specs.Simple.{Assignment, extended_by, simple_modes, SimplyTyped, SimplyTypedExpression}
use Rattle.clf_syntax.specs.Plain.{plain_obj, plain_neutral}
use Rattle.clf_syntax.specs.PlainSimple.{plain_simple}
use Rattle.clf_syntax.specs.Wide.{IsWide}
use Rattle.hered_subst.specs.Substitution.{single, Substituted, Flattened}
use Rattle.hered_put.specs.declared.fault.PutFault.{PutFault}
use Rattle.hered_put.specs.declared.fault.PutFault.TheVariants.{Untyped, TooFar, NoMemory}
use Rattle.metavars.specs.declared.instance.Untyped.{Untyped as IsUntyped}
use Rattle.metavars.specs.declared.value.Outcome.{Outcome}
use Rattle.metavars.specs.declared.value.Outcome.TheVariants.{Kept, Solved}
use Rattle.metavars.specs.declared.value.Value.{Value}
use Rattle.metavars.specs.Becoming as becoming
use Rattle.metavars.specs.Stored.{Stored}
use Rattle.metavars.specs.Typed.{IsUntypedOrWant}

-- ---- what is answered

-- Where it is refused as untyped, this is so.
abbrev pub Refuses : Type 0 → PutFault → Type 0
Refuses F Untyped = F
Refuses F TooFar = Unit {0}
Refuses F NoMemory = Unit {0}

-- What is answered is such; where it is refused as untyped, F.
abbrev pub Gives : {X : Type 0} → Type 0 → (X → Type 0) → Result X PutFault → Type 0
Gives F P (Ok x) = P x
Gives F P (Err fault) = Refuses F fault

-- a fault that is not that something is untyped
abbrev pub IsOther : OrWide IsUntyped → Type 0
IsOther (Fault u) = ⊥
IsOther WantsMemory = Unit {0}
IsOther (PassesFar w) = IsWide w

-- the fault of a call, by that of a substitution
abbrev pub IsFaultOf : PutFault → OrWide IsUntyped → Type 0
IsFaultOf Untyped f = IsUntypedOrWant f
IsFaultOf TooFar f = IsOther f
IsFaultOf NoMemory f = IsOther f

-- ---- values

-- an object with its simple type
abbrev pub plain_value : Value → PlainObject × SimpleType
plain_value v = (plain_obj v.obj, plain_simple v.ty.now)

-- A lambda of the mode, with the argument put for its variable.
abbrev pub AppliedTo : Mode → PlainObject → PlainObject → PlainObject → Type 0
AppliedTo m f y x = (b : PlainObject) × (f ≡ lam m b) × Substituted (single y 0) b x

-- The same of a value, whose type is that of the application.
unfoldable pub Applied : Mode → PlainObject × SimpleType → PlainObject → PlainObject × SimpleType → Type 0
Applied m f y x = AppliedTo m f.0 y x.0
    × ((z : Assignment) (d c : SimpleType) → f.1 ≡ arrow m d c → SimplyTyped z f.0 (arrow m d c) → SimplyTyped z y d → (x.1 ≡ c) × SimplyTyped z x.0 c)

unfoldable pub NotApplied : Mode → PlainObject × SimpleType → PlainObject → Type 0
NotApplied m f y = (z : Assignment) (d c : SimpleType) → f.1 ≡ arrow m d c → SimplyTyped z f.0 (arrow m d c) → SimplyTyped z y d → ⊥

-- So it is of an object that has a function's type, at its domain.
unfoldable pub AppliedAt : Mode → SimpleType → PlainObject → PlainObject → PlainObject → Type 0
AppliedAt m d f y x = AppliedTo m f y x × ((z : Assignment) (c : SimpleType) → SimplyTyped z f (arrow m d c) → SimplyTyped z y d → SimplyTyped z x c)

unfoldable pub NotAppliedAt : Mode → SimpleType → PlainObject → PlainObject → Type 0
NotAppliedAt m d f y = (z : Assignment) (c : SimpleType) → SimplyTyped z f (arrow m d c) → SimplyTyped z y d → ⊥

-- A value is a pair of two values.
abbrev pub IsPair : PlainObject × SimpleType → PlainObject × SimpleType → PlainObject × SimpleType → Type 0
IsPair f l r = (f.0 ≡ pair l.0 r.0) × (f.1 ≡ simple_with l.1 r.1)

unfoldable pub NoPair : PlainObject × SimpleType → Type 0
NoPair f = (z : Assignment) (c d : SimpleType) → f.1 ≡ simple_with c d → SimplyTyped z f.0 (simple_with c d) → ⊥

-- an object that is none
unfoldable pub IsNoPair : PlainObject → Type 0
IsNoPair o = (l r : PlainObject) → o ≡ pair l r → ⊥

-- ---- what neutrals become

abbrev pub BecomesOutcome : Stored → PlainNeutral → Outcome → Type 0
BecomesOutcome store n (Kept x) = becoming.Kept store n (plain_neutral x)
BecomesOutcome store n (Solved v) = becoming.Value store n (plain_value v)

abbrev pub IsKept : PlainNeutral → Outcome → Type 0
IsKept n (Kept x) = plain_neutral x ≡ n
IsKept n (Solved v) = ⊥

-- an object, as the value at a type that was looked up
abbrev pub IsSolvedAt : PlainObject → Option SimpleType → Outcome → Type 0
IsSolvedAt o t (Kept x) = ⊥
IsSolvedAt o t (Solved v) = (plain_obj v.obj ≡ o) × (t ≡ Some (plain_simple v.ty.now))

abbrev pub UnderArgument : Mode → PlainObject → Outcome → Outcome → Type 0
UnderArgument m y (Kept r) (Kept x) = plain_neutral x ≡ app m (plain_neutral r) y
UnderArgument m y (Solved v) (Solved x) = Applied m (plain_value v) y (plain_value x)
UnderArgument m y (Kept r) (Solved x) = ⊥
UnderArgument m y (Solved v) (Kept x) = ⊥

abbrev pub NotUnderArgument : Mode → PlainObject → Outcome → Type 0
NotUnderArgument m y (Kept r) = ⊥
NotUnderArgument m y (Solved v) = NotApplied m (plain_value v) y

abbrev pub UnderFirst : Outcome → Outcome → Type 0
UnderFirst (Kept r) (Kept x) = plain_neutral x ≡ fst (plain_neutral r)
UnderFirst (Solved v) (Solved x) = (y : PlainObject × SimpleType) × IsPair (plain_value v) (plain_value x) y
UnderFirst (Kept r) (Solved x) = ⊥
UnderFirst (Solved v) (Kept x) = ⊥

abbrev pub UnderSecond : Outcome → Outcome → Type 0
UnderSecond (Kept r) (Kept x) = plain_neutral x ≡ snd (plain_neutral r)
UnderSecond (Solved v) (Solved x) = (y : PlainObject × SimpleType) × IsPair (plain_value v) y (plain_value x)
UnderSecond (Kept r) (Solved x) = ⊥
UnderSecond (Solved v) (Kept x) = ⊥

abbrev pub NotProjected : Outcome → Type 0
NotProjected (Kept r) = ⊥
NotProjected (Solved v) = NoPair (plain_value v)

-- ---- what comes in the place of steps

-- What comes in the place of a step, where its right side has a value.
pub data ValueInFront (ms : List Mode) : PlainObject → PlainExpression → PlainExpression → Type 0 where
  flat_in_front : {g e x : PlainExpression} → Flattened (length ms) g e x → ValueInFront ms (monadic g) e x
  meta_in_front : {n : PlainNeutral} {m : ℕ} {e : PlainExpression} → head_of n ≡ Meta m → ValueInFront ms (atomic n) e (step ms n e)

-- The same, with its types.
unfoldable pub Front : List Mode → PlainObject × SimpleType → PlainExpression → PlainExpression → Type 0
Front ms v e x = ValueInFront ms v.0 e x
    × ((z : Assignment) (ts us : SimpleTelescope) → v.1 ≡ lax ts → simple_modes ts ≡ ms → SimplyTyped z v.0 (lax ts) → SimplyTypedExpression (extended_by ts z) e us → SimplyTypedExpression z x us)

unfoldable pub NotFront : List Mode → PlainObject × SimpleType → PlainExpression → Type 0
NotFront ms v e = (z : Assignment) (ts us : SimpleTelescope) → v.1 ≡ lax ts → simple_modes ts ≡ ms → SimplyTyped z v.0 (lax ts) → SimplyTypedExpression (extended_by ts z) e us → ⊥

-- A value of a monad, whose steps come.
unfoldable pub Flat : List Mode → PlainExpression → SimpleType → PlainExpression → PlainExpression → Type 0
Flat ms g t e x = Flattened (length ms) g e x
    × ((z : Assignment) (ts us : SimpleTelescope) → t ≡ lax ts → simple_modes ts ≡ ms → SimplyTypedExpression z g ts → SimplyTypedExpression (extended_by ts z) e us → SimplyTypedExpression z x us)

unfoldable pub NotFlat : List Mode → PlainExpression → SimpleType → PlainExpression → Type 0
NotFlat ms g t e = (z : Assignment) (ts us : SimpleTelescope) → t ≡ lax ts → simple_modes ts ≡ ms → SimplyTypedExpression z g ts → SimplyTypedExpression (extended_by ts z) e us → ⊥

-- A step whose right side is a neutral with a metavariable as its head stays.
abbrev pub MetaInFront : List Mode → PlainNeutral → PlainExpression → PlainExpression → Type 0
MetaInFront ms n e x = (m : ℕ) × (head_of n ≡ Meta m) × (x ≡ step ms n e)

unfoldable pub NoMeta : PlainNeutral → Type 0
NoMeta n = (m : ℕ) → head_of n ≡ Meta m → ⊥

abbrev pub InFront : List Mode → Outcome → PlainExpression → PlainExpression → Type 0
InFront ms (Kept r) e x = x ≡ step ms (plain_neutral r) e
InFront ms (Solved v) e x = Front ms (plain_value v) e x

abbrev pub NotInFront : List Mode → Outcome → PlainExpression → Type 0
NotInFront ms (Kept r) e = ⊥
NotInFront ms (Solved v) e = NotFront ms (plain_value v) e
