-- What is written, with what is still to be written, is the whole.
use Rattle.std.proofs.Common.{◌≡◌, ◌++◌, length}
use Rattle.celf_replies.specs.Found.{circle_text}
use Rattle.celf_replies.proofs.found.push_circle.Given as goal

abbrev pub invariant-loop-rest : goal.invariant-loop-rest
invariant-loop-rest l = l.out.items ++ circle_text l.rest ≡ l.fn.out.items ++ circle_text l.names

abbrev pub decreases-loop-rest : goal.decreases-loop-rest
decreases-loop-rest l = length l.rest
