-- What is left decides.
use Rattle.std.proofs.Common.{◌≡◌, drop}
use Rattle.celf_reconstruct.specs.Known as spec
use Rattle.celf_reconstruct.proofs.known.are_known.Given as goal

abbrev pub invariant-loop-variable : goal.invariant-loop-variable
invariant-loop-variable l = spec.are_known (drop l.variable-index l.variables) ≡ spec.are_known l.variables
