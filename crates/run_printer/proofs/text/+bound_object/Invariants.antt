use Rattle.std.proofs.Common.{length, ◌-◌}
use Rattle.run_printer.proofs.text.+bound_object.Given as goal

abbrev pub decreases-bound_object : goal.decreases-bound_object
decreases-bound_object l = length l.entries.now - l.at
