-- What is turned so far, and then what is left, from the last to the first, is the whole in the other order.
use Rattle.std.proofs.Common.{◌≡◌, ◌++◌, map, reverse, length}
use Rattle.celf_constraints.specs.Equated.{plain_equation}
use Rattle.celf_unify.proofs.gather.turned.Given as goal

abbrev pub invariant-loop-equation : goal.invariant-loop-equation
invariant-loop-equation l = map plain_equation l.all.items ++ reverse (map plain_equation l.rest.items) ≡ reverse (map plain_equation l.initial.rest.items)

abbrev pub decreases-loop-equation : goal.decreases-loop-equation
decreases-loop-equation l = length l.rest.items
