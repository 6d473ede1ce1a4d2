-- What is added, with what is still to be added, is the whole.
use Rattle.std.proofs.Common.{map, drop}
use Rattle.clf_syntax.specs.PlainSimple.{plain_simple}
use Rattle.celf_filled.proofs.Grown.{GoesOn}
use Rattle.celf_reconstruct.proofs.naming.add_metas.Given as goal

abbrev pub invariant-loop-simple : goal.invariant-loop-simple
invariant-loop-simple l = GoesOn l.fn.store l.store (map plain_simple (drop l.simple-index l.simples)) (map plain_simple l.simples)
