-- What is answered for an item.
use Rattle.std.specs.Prelude.{◌≡◌, ◌⊎◌, Option, None, Some}
use Rattle.celf_surface.specs.declared.surface.Span.{Span}
use Rattle.celf_sugar.specs.declared.fault.SugarFault.{SugarFault}
use Rattle.celf_sugar.specs.declared.fault.SugarFault.TheVariants.{KindPlace, NotAsync, Redex, OutOfRange, BadImplicit, NoMemory}
use Rattle.celf_sugar.specs.declared.first.Found.{Found}
use Rattle.celf_sugar.specs.Earliest.{sooner}
use Rattle.celf_sugar.specs.Faults.{fault_start}

-- an error is the first fault, or memory ran out
abbrev pub IsFirst : SugarFault → Option SugarFault → Type 0
IsFirst f first = (f ≡ NoMemory) ⊎ (first ≡ Some f)

-- a place as a fault of some kind
abbrev pub as_fault : (Span → SugarFault) → Option Span → Option SugarFault
as_fault kind None = None
as_fault kind (Some s) = Some (kind s)

-- the first of the faults that were found, one of each kind
abbrev pub first_found : Found → Option SugarFault
first_found f = sooner fault_start (as_fault KindPlace f.kind_place) (sooner fault_start (as_fault NotAsync f.not_async) (sooner fault_start (as_fault Redex f.redex) (sooner fault_start (as_fault OutOfRange f.out_of_range) (as_fault BadImplicit f.bad_implicit))))
