-- What is named, with what is still to be named, is the whole.
use Rattle.std.proofs.Common.{◌≡◌, ◌++◌, drop, map}
use Rattle.celf_reconstruct.specs.Steps.{name_in}
use Rattle.celf_reconstruct.proofs.declared.names_of.Given as goal

abbrev pub invariant-loop-number : goal.invariant-loop-number
invariant-loop-number l = l.names.items ++ map (name_in l.variables) (drop l.number-index l.numbers) ≡ map (name_in l.variables) l.numbers
