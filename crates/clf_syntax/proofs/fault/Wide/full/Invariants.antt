-- An entry for each number so far.
use Rattle.std.proofs.Common.{◌≡◌, length}
use Rattle.clf_syntax.proofs.fault.Wide.full.Given as goal

abbrev pub invariant-loop-number : goal.invariant-loop-number
invariant-loop-number l = length l.entries ≡ l._number
