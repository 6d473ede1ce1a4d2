-- What is still to be added follows what was added.
use Rattle.std.proofs.Common.{◌≡◌, ◌++◌, map}
use Rattle.celf_constraints.specs.Equated.{plain_equation}
use Rattle.celf_unify.proofs.gather.with_each.Given as goal

abbrev pub invariant-loop-part : goal.invariant-loop-part
invariant-loop-part l = map plain_equation l.more.items ++ map plain_equation l.part-iterator.rest.items ≡ map plain_equation l.fn.equations.items ++ map plain_equation l.fn.parts.items
