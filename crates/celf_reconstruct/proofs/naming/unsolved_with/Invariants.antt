-- What is copied, with what is still to be copied, is the whole.
use Rattle.std.proofs.Common.{◌≡◌, ◌++◌, drop, map}
use Rattle.clf_syntax.specs.PlainSimple.{plain_simple}
use Rattle.metavars.specs.Stored.{constants}
use Rattle.celf_reconstruct.proofs.naming.unsolved_with.Given as goal

abbrev pub invariant-loop-simple : goal.invariant-loop-simple
invariant-loop-simple l = map plain_simple l.constants ++ map plain_simple (drop l.simple-index l.simples) ≡ constants l.old ++ map plain_simple l.simples
