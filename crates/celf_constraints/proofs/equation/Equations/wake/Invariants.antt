use Rattle.std.proofs.Common.{◌≡◌, ◌++◌, map, drop}
use Rattle.celf_constraints.specs.Equated.{plain_equation}
use Rattle.celf_constraints.specs.Woken.{woken}
use Rattle.celf_constraints.proofs.equation.Equations.wake.Given as goal

abbrev pub invariant-loop-place : goal.invariant-loop-place
invariant-loop-place l = l.places.items ++ woken l.metas l.place (map plain_equation (drop l.place l.items)) ≡ woken l.metas 0 (map plain_equation l.items)
