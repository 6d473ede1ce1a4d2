-- What is still to be added follows what was added.
use Rattle.std.proofs.Common.{◌≡◌, ◌++◌, map}
use Rattle.celf_constraints.specs.Equated.{plain_equation, equations_in}
use Rattle.celf_unify.proofs.search.with_all.Given as goal

abbrev pub invariant-loop-equation : goal.invariant-loop-equation
invariant-loop-equation l = equations_in l.all ++ map plain_equation l.equation-iterator.rest.items ≡ equations_in l.fn.left ++ equations_in l.fn.more
