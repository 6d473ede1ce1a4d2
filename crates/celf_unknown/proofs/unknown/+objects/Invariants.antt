-- What has been found is the earliest of the front of the list. The scope is as it was, or has the names of the front.
use Rattle.std.proofs.Common.{◌≡◌, ◌++◌, map, take}
use Rattle.std.specs.Prelude.{option_copied}
use Rattle.std.specs.List.{flat_map}
use Rattle.clf_sig.specs.Signature.{plain_signature}
use Rattle.celf_sugar.specs.Earliest.{earliest}
use Rattle.celf_sugar.specs.Plain.{desugared_elim, desugared_step, desugared_marked}
use Rattle.celf_unknown.specs.Unknown.{place, unknown_in_act}
use Rattle.celf_unknown.specs.UnknownLists.{unknown_along, unknown_in_step, bound_by_step, unknown_in_marked}
use Rattle.celf_unknown.proofs.unknown.+objects.Given as goal

abbrev pub invariant-unknown_in_spine-loop-act : goal.invariant-unknown_in_spine-loop-act
invariant-unknown_in_spine-loop-act l =
    (option_copied l.found ≡ earliest place (flat_map (unknown_in_act (plain_signature l.sig) l.fn.scope) (map desugared_elim (take l.act-index l.spine)))) ×
    (l.scope ≡ l.fn.scope)

abbrev pub invariant-unknown_in_steps-loop-step : goal.invariant-unknown_in_steps-loop-step
invariant-unknown_in_steps-loop-step l =
    (option_copied l.found ≡ earliest place (unknown_along (unknown_in_step (plain_signature l.sig)) bound_by_step l.fn.scope (map desugared_step (take l.step-index l.steps)))) ×
    (l.scope ≡ l.fn.scope ++ flat_map bound_by_step (map desugared_step (take l.step-index l.steps)))

abbrev pub invariant-unknown_in_tuple-loop-entry : goal.invariant-unknown_in_tuple-loop-entry
invariant-unknown_in_tuple-loop-entry l =
    (option_copied l.found ≡ earliest place (flat_map (unknown_in_marked (plain_signature l.sig) l.fn.scope) (map desugared_marked (take l.entry-index l.tuple)))) ×
    (l.scope ≡ l.fn.scope)
