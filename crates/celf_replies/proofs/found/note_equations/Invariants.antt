-- What appeared, with what is still to be looked at, is what appears in all.
use Rattle.std.proofs.Common.{◌≡◌, drop, map}
use Rattle.celf_replies.specs.Reply.{plain_sides}
use Rattle.celf_replies.specs.Found.{appearing_equations}
use Rattle.celf_replies.proofs.found.note_equations.Given as goal

abbrev pub invariant-loop-sides : goal.invariant-loop-sides
invariant-loop-sides l = appearing_equations l.metas.items (map plain_sides (drop l.sides-index l.equations)) ≡ appearing_equations l.fn.metas.items (map plain_sides l.equations)
