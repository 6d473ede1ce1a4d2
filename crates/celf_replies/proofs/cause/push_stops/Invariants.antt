-- What is written, with what is still to be written, is the whole.
use Rattle.std.proofs.Common.{◌≡◌, ◌++◌, drop}
use Rattle.celf_replies.specs.Causes.{stops_text}
use Rattle.celf_replies.proofs.cause.push_stops.Given as goal

abbrev pub invariant-loop-place : goal.invariant-loop-place
invariant-loop-place l = l.out.items ++ stops_text (drop l.place-index l.path) ≡ l.fn.out.items ++ stops_text l.path
