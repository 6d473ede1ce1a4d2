-- What is kept where a number passes its range: a list so long that no number counts it.
use Rattle.std.specs.Prelude.{◌≤◌, length}
use Rattle.clf_syntax.specs.declared.tree.Tele.{out-Tele}
use Rattle.clf_syntax.specs.declared.fault.Wide.{Wide}
use Rattle.clf_syntax.specs.declared.fault.Want.{Want}
use Rattle.clf_syntax.specs.declared.fault.Want.TheVariants.{NoMemory, TooFar}
use Rattle.clf_syntax.specs.declared.fault.OrWide.{OrWide}
use Rattle.clf_syntax.specs.declared.fault.OrWide.TheVariants.{NoMemory as OrNoMemory, TooFar as OrTooFar}

-- The list that it keeps has an entry for each number of 32 bits but one.
abbrev pub IsWide : Wide → Type 0
IsWide w = 4294967295 ≤ length (out-Tele w.counted).entries

-- lack of memory, which is free, or of numbers
abbrev pub IsWant : Want → Type 0
IsWant NoMemory = Unit {0}
IsWant (TooFar w) = IsWide w

-- the same want, beside the faults of a call
abbrev pub wanting : {E : Type 0} → Want → OrWide E
wanting NoMemory = OrNoMemory
wanting (TooFar w) = OrTooFar w
