-- What is left leads from the indices and the state so far to where all does.
use Rattle.std.proofs.Common.{◌≡◌, map, drop}
use Rattle.clf_syntax.specs.Plain.{plain_obj}
use Rattle.clf_syntax.specs.PlainSimple.{plain_simple_entry}
use Rattle.clf_sig.specs.Signature.{plain_signature}
use Rattle.celf_sugar.specs.Plain.{desugared_object}
use Rattle.celf_places.specs.Along.{left_along}
use Rattle.celf_filled.specs.Scopes.{plain_scope, plain_named}
use Rattle.celf_filled.specs.States.{state_of}
use Rattle.celf_filled.specs.WalkTypes.{written_index, fill_indices}
use Rattle.celf_filled.proofs.types.fill_indices.Given as goal

abbrev pub invariant-loop-index : goal.invariant-loop-index
invariant-loop-index l =
    left_along (written_index (plain_signature l.sig) (map plain_named l.variables) (plain_scope l.outer)) (record { objects = map plain_obj l.objects; wanted = map plain_simple_entry l.wanted }, state_of l.store l.whole) (map desugared_object (drop l.index-index l.indices))
    ≡ fill_indices (plain_signature l.sig) (map plain_named l.variables) (plain_scope l.outer) l.implicit (map plain_simple_entry l.fn.wanted) (map desugared_object l.indices) (state_of l.fn.store l.fn.whole)
