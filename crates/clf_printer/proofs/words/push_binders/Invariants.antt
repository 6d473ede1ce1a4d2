use Rattle.std.proofs.Common.{◌≡◌, ◌++◌, length}
use Rattle.clf_printer.specs.Text.{binders_text}
use Rattle.clf_printer.proofs.words.push_binders.Given as goal

abbrev pub invariant-loop-rest : goal.invariant-loop-rest
invariant-loop-rest l = l.out.items ++ binders_text l.inner l.rest ≡ l.fn.out.items ++ binders_text l.level l.modes

abbrev pub decreases-loop-rest : goal.decreases-loop-rest
decreases-loop-rest l = length l.rest
