-- Inner: what is true of the context of every judge. It stands apart, since the declared judge names it.
use Rattle.std.specs.Prelude.{◌<◌, ◌^◌, length}
use Rattle.use_contexts.specs.Context.{Context}

-- Each entry has a number of 32 bits, and so has what comes after the last one.
abbrev pub IsNumbered : Context → Type 0
IsNumbered g = length g < 2 ^ 32
