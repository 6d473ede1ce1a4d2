-- The arguments that are left lead from here to where all do.
use Rattle.std.proofs.Common.{◌≡◌}
use Rattle.celf_filled.specs.Scopes.{plain_scope}
use Rattle.celf_filled.specs.States.{state_of}
use Rattle.celf_filled.specs.Headed.{plain_headed, plain_meaning}
use Rattle.celf_filled.specs.Walk.{fill_arguments, fill_implicit}
use Rattle.celf_filled.proofs.headed.fill_arguments.Given as goal

abbrev pub invariant-loop-left : goal.invariant-loop-left
invariant-loop-left l = fill_arguments (plain_scope l.scope) l.left (plain_headed l.headed, state_of l.store l.whole) ≡ fill_implicit (plain_scope l.scope) (plain_meaning l.meaning) (state_of l.fn.store l.fn.whole)

abbrev pub decreases-loop-left : goal.decreases-loop-left
decreases-loop-left l = l.left
