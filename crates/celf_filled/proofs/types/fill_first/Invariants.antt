-- The indices that are left lead from here to where all do.
use Rattle.std.proofs.Common.{◌≡◌, map}
use Rattle.clf_syntax.specs.PlainSimple.{plain_simple_entry}
use Rattle.celf_filled.specs.Scopes.{plain_scope}
use Rattle.celf_filled.specs.States.{state_of}
use Rattle.celf_filled.specs.HeadedTypes.{plain_indices}
use Rattle.celf_filled.specs.WalkTypes.{fill_first, no_indices_yet}
use Rattle.celf_filled.proofs.types.fill_first.Given as goal

abbrev pub invariant-loop-left : goal.invariant-loop-left
invariant-loop-left l =
    fill_first (plain_scope l.scope) l.left (plain_indices l.filled, state_of l.store l.whole)
    ≡ fill_first (plain_scope l.scope) l.implicit (no_indices_yet (map plain_simple_entry l.wanted), state_of l.fn.store l.fn.whole)

abbrev pub decreases-loop-left : goal.decreases-loop-left
decreases-loop-left l = l.left
