-- What has been found is the earliest of the front of the list, whose names are bound.
use Rattle.std.proofs.Common.{◌≡◌, ◌++◌, map, take}
use Rattle.std.specs.Prelude.{option_copied}
use Rattle.std.specs.List.{flat_map}
use Rattle.clf_sig.specs.Signature.{plain_signature}
use Rattle.celf_sugar.specs.Earliest.{earliest}
use Rattle.celf_sugar.specs.Plain.{desugared_entry}
use Rattle.celf_unknown.specs.Unknown.{place}
use Rattle.celf_unknown.specs.UnknownLists.{unknown_along, unknown_in_entry, bound_by_entry}
use Rattle.celf_unknown.proofs.unknown.+types.Given as goal

abbrev pub invariant-unknown_in_entries-loop-entry : goal.invariant-unknown_in_entries-loop-entry
invariant-unknown_in_entries-loop-entry l =
    (option_copied l.found ≡ earliest place (unknown_along (unknown_in_entry (plain_signature l.sig)) bound_by_entry l.fn.scope (map desugared_entry (take l.entry-index l.entries)))) ×
    (l.scope ≡ l.fn.scope ++ flat_map bound_by_entry (map desugared_entry (take l.entry-index l.entries)))
