-- What is copied, with what is still to be copied, is the whole.
use Rattle.std.proofs.Common.{◌≡◌, ◌++◌, Some, drop, map}
use Rattle.clf_syntax.specs.PlainSimple.{plain_simple}
use Rattle.celf_reconstruct.specs.Naming.{types_in}
use Rattle.celf_reconstruct.proofs.naming.simples_left.Given as goal

abbrev pub invariant-loop-meta : goal.invariant-loop-meta
invariant-loop-meta l = map Some (map plain_simple l.simples) ++ map (types_in l.store) (drop l.meta-index l.left) ≡ map (types_in l.store) l.left
