-- The copies are those of the equations that were looked at.
use Rattle.std.proofs.Common.{◌≡◌, map, take}
use Rattle.celf_constraints.specs.Equated.{plain_equation}
use Rattle.celf_unify.proofs.pass.stack_of.Given as goal

abbrev pub invariant-loop-equation : goal.invariant-loop-equation
invariant-loop-equation l = map plain_equation l.copies.items ≡ map plain_equation (take l.equation-index l.equations)
