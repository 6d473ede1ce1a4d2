-- What is told, with what is still to be told, is the whole.
use Rattle.std.proofs.Common.{◌≡◌, ◌++◌, drop, map}
use Rattle.celf_constraints.specs.Equated.{equations_in, plain_equation}
use Rattle.celf_replies.specs.Reply.{plain_sides}
use Rattle.celf_reconstruct.specs.Posed.{sides_of}
use Rattle.celf_reconstruct.proofs.sides.sides_of_each.Given as goal

abbrev pub invariant-loop-equation : goal.invariant-loop-equation
invariant-loop-equation l = map plain_sides l.all.items ++ map sides_of (map plain_equation (drop l.equation-index l.items)) ≡ map sides_of (equations_in l.equations)
