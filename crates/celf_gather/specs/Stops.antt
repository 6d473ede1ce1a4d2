-- Inner: what the functions inside answer.
use Rattle.std.specs.Prelude.{◌≡◌, Result, Ok, Err}
use Rattle.clf_syntax.specs.Wide.{IsWant}
use Rattle.hered_put.specs.declared.fault.PutFault.{PutFault}
use Rattle.hered_put.specs.declared.fault.PutFault.TheVariants.{Untyped, TooFar, NoMemory}
use Rattle.hered_put.specs.Function.{Answer, made, untyped}
use Rattle.celf_gather.specs.declared.stop.Stop.{Stop}
use Rattle.celf_gather.specs.declared.stop.Stop.TheVariants.{Misfit, Short}

-- Gathering that stops gathers nothing, or ends for want of memory or of numbers.
abbrev pub Stops : {A : Type 0} → Answer A → Stop → Type 0
Stops want Misfit = want ≡ untyped
Stops want (Short w) = IsWant w

abbrev pub Gives : {X A : Type 0} → (X → A) → Answer A → Result X Stop → Type 0
Gives plain want (Ok x) = want ≡ made (plain x)
Gives plain want (Err stop) = Stops want stop

abbrev pub IsShort : Stop → Type 0
IsShort Misfit = ⊥
IsShort (Short w) = IsWant w

-- What ends a walk where an object could not be put.
abbrev pub IsUnput : PutFault → Stop → Type 0
IsUnput Untyped stop = stop ≡ Misfit
IsUnput TooFar stop = IsShort stop
IsUnput NoMemory stop = IsShort stop
