-- The exit status of the program, by how its run ended.
use Rattle.std.specs.Prelude.{ℕ}
use Rattle.celf_run.specs.declared.status.Status.{Status}
use Rattle.celf_run.specs.declared.status.Status.TheVariants.{Done, Refused, BadWords, ReadFault, WriteFault, NoMemory, TooLarge, TooFar}

abbrev pub number_of : Status → ℕ
number_of Done = 0
number_of BadWords = 2
number_of Refused = 3
number_of ReadFault = 4
number_of WriteFault = 5
number_of NoMemory = 6
number_of TooLarge = 7
number_of (TooFar w) = 8
