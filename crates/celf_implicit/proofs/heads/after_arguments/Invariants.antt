-- What is left of the arguments leads from here to where all lead.
use Rattle.std.proofs.Common.{◌≡◌}
use Rattle.std.specs.Prelude.{option_copied}
use Rattle.celf_places.specs.Locals.{plain_place}
use Rattle.celf_implicit.specs.Variables.{after_arguments}
use Rattle.celf_implicit.proofs.heads.after_arguments.Given as goal

abbrev pub invariant-loop-left : goal.invariant-loop-left
invariant-loop-left l = after_arguments l.left (plain_place (option_copied l.place)) ≡ after_arguments l.count (plain_place (option_copied l.initial.place))

abbrev pub decreases-loop-left : goal.decreases-loop-left
decreases-loop-left l = l.left
