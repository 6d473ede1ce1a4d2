-- What is left leads from the tree and the state so far to where all does.
use Rattle.std.proofs.Common.{◌≡◌, map, drop}
use Rattle.clf_syntax.specs.PlainSimple.{plain_simple_entry}
use Rattle.clf_sig.specs.Signature.{plain_signature}
use Rattle.celf_sugar.specs.Plain.{desugared_elim, desugared_step, desugared_marked}
use Rattle.celf_places.specs.Along.{left_along}
use Rattle.celf_filled.specs.Scopes.{plain_scope, plain_named}
use Rattle.celf_filled.specs.States.{state_of}
use Rattle.celf_filled.specs.Headed.{plain_headed, plain_steps, plain_entries}
use Rattle.celf_filled.specs.Walk.{fill_head, fill_act, fill_step, fill_entry, no_steps_yet, no_entries_yet}
use Rattle.celf_filled.proofs.objects.+fill.Given as goal

abbrev pub invariant-fill_neutral-loop-act : goal.invariant-fill_neutral-loop-act
invariant-fill_neutral-loop-act l =
    left_along (fill_act (plain_signature l.sig) (map plain_named l.variables) (plain_scope l.scope)) (plain_headed l.headed, state_of l.store l.whole) (map desugared_elim (drop l.act-index l.spine))
    ≡ left_along (fill_act (plain_signature l.sig) (map plain_named l.variables) (plain_scope l.scope)) (fill_head (plain_signature l.sig) (map plain_named l.variables) (plain_scope l.scope) l.head (state_of l.fn.store l.fn.whole)) (map desugared_elim l.spine)

abbrev pub invariant-fill_expression-loop-step : goal.invariant-fill_expression-loop-step
invariant-fill_expression-loop-step l =
    left_along (fill_step (plain_signature l.sig) (map plain_named l.variables)) (plain_steps l.steps l.scope, state_of l.store l.whole) (map desugared_step (drop l.step-index l.step-items))
    ≡ left_along (fill_step (plain_signature l.sig) (map plain_named l.variables)) (no_steps_yet (plain_scope l.outer), state_of l.fn.store l.fn.whole) (map desugared_step l.step-items)

abbrev pub invariant-fill_tuple-loop-entry : goal.invariant-fill_tuple-loop-entry
invariant-fill_tuple-loop-entry l =
    left_along (fill_entry (plain_signature l.sig) (map plain_named l.variables) (plain_scope l.scope)) (plain_entries l.entries l.wanted, state_of l.store l.whole) (map desugared_marked (drop l.entry-index l.tuple))
    ≡ left_along (fill_entry (plain_signature l.sig) (map plain_named l.variables) (plain_scope l.scope)) (no_entries_yet (map plain_simple_entry l.fn.wanted), state_of l.fn.store l.fn.whole) (map desugared_marked l.tuple)
