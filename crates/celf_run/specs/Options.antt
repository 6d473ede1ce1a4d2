-- The options of a run.
use Rattle.std.specs.Prelude.{false}
use Rattle.celf_run.specs.declared.options.Options.{Options}

-- those of a command line that asks for none
abbrev pub default_options : Options
default_options = record { depth = 64; steps = 10000; check = false }
