use Rattle.std.proofs.Common.{length, ◌-◌}
use Rattle.run_printer.proofs.text.+bound_type.Given as goal

abbrev pub decreases-bound_type : goal.decreases-bound_type
decreases-bound_type l = length l.entries.now - l.at
