-- What the rounds of an item answer.
use Rattle.std.specs.Prelude.{◌≡◌, List, map, Option, None, Some, Result, Ok, Err}
use Rattle.clf_syntax.specs.declared.fault.OrWide.{OrWide}
use Rattle.clf_syntax.specs.declared.fault.OrWide.TheVariants.{Fault, NoMemory, TooFar}
use Rattle.clf_syntax.specs.Wide.{IsWide}
use Rattle.clf_sig.specs.Entry.{PlainSignature}
use Rattle.celf_sugar.specs.PlainTree.{DesugaredBody, DesugaredItem}
use Rattle.celf_places.specs.Locals.{plain_place}
use Rattle.celf_implicit.specs.declared.variable.Implicit.{Implicit}
use Rattle.celf_implicit.specs.declared.variable.Variable.{Variable}
use Rattle.celf_implicit.specs.Variables.{PlainImplicit}
use Rattle.celf_implicit.specs.Rounds.{determined, undetermined}

-- a determined variable, without memory
abbrev pub plain_implicit : Implicit → PlainImplicit
plain_implicit x = record { name = x.name; start = x.start; arguments = x.arguments; place = plain_place x.simple }

-- each implicit variable of the item is determined, and these are they
pub record AreAll (sig : PlainSignature) (body : DesugaredBody) (xs : List Implicit) : Type 0 where
  pub determined_all : undetermined sig body ≡ None
  pub found : map plain_implicit xs ≡ determined sig body

-- all implicit variables, each determined; or the first of those in the text that no round determines
abbrev pub IsOutcome : PlainSignature → DesugaredBody → Result (List Implicit) Variable → Type 0
IsOutcome sig body (Ok xs) = AreAll sig body xs
IsOutcome sig body (Err v) = undetermined sig body ≡ Some v

-- these, unless one is left
abbrev pub unless_left : List Implicit → Option Variable → Result (List Implicit) Variable
unless_left xs None = Ok xs
unless_left xs (Some v) = Err v

-- The answer is all implicit variables, each determined; or the first of those in the text that no round determines.
abbrev pub IsAnswer : PlainSignature → DesugaredItem → Result (List Implicit) (OrWide Variable) → Type 0
IsAnswer sig item (Ok xs) = AreAll sig item.body xs
IsAnswer sig item (Err (Fault v)) = undetermined sig item.body ≡ Some v
IsAnswer sig item (Err NoMemory) = Unit {0}
IsAnswer sig item (Err (TooFar w)) = IsWide w
