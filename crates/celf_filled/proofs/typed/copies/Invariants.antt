-- What is copied so far is the front of the list.
use Rattle.std.proofs.Common.{◌≡◌, take}
use Rattle.celf_filled.proofs.typed.copies.Given as goal

abbrev pub invariant-loop-local : goal.invariant-loop-local
invariant-loop-local l = l.copied ≡ take l.local-index l.locals
