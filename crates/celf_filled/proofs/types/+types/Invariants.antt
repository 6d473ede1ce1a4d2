-- What is left leads from the entries and the state so far to where all does.
use Rattle.std.proofs.Common.{◌≡◌, map, drop}
use Rattle.clf_sig.specs.Signature.{plain_signature}
use Rattle.celf_sugar.specs.Plain.{desugared_entry}
use Rattle.celf_places.specs.Along.{left_along}
use Rattle.celf_filled.specs.Scopes.{plain_scope, plain_named}
use Rattle.celf_filled.specs.States.{state_of}
use Rattle.celf_filled.specs.HeadedTypes.{plain_bindings}
use Rattle.celf_filled.specs.WalkTypes.{fill_binding, no_bindings_yet}
use Rattle.celf_filled.proofs.types.+types.Given as goal

abbrev pub invariant-fill_bindings-loop-index : goal.invariant-fill_bindings-loop-index
invariant-fill_bindings-loop-index l =
    left_along (fill_binding (plain_signature l.sig) (map plain_named l.variables)) (plain_bindings l.filled l.scope, state_of l.store l.whole) (map desugared_entry (drop l.index l.entries))
    ≡ left_along (fill_binding (plain_signature l.sig) (map plain_named l.variables)) (no_bindings_yet (plain_scope l.fn.outer), state_of l.fn.store l.fn.whole) (map desugared_entry l.entries)
