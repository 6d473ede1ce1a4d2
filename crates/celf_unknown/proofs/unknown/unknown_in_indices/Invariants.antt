-- What has been found is the earliest of the front of the list, and the scope is as it was.
use Rattle.std.proofs.Common.{◌≡◌, map, take}
use Rattle.std.specs.Prelude.{option_copied}
use Rattle.std.specs.List.{flat_map}
use Rattle.clf_sig.specs.Signature.{plain_signature}
use Rattle.celf_sugar.specs.Earliest.{earliest}
use Rattle.celf_sugar.specs.Plain.{desugared_object}
use Rattle.celf_unknown.specs.Unknown.{place, unknown_in_object}
use Rattle.celf_unknown.proofs.unknown.unknown_in_indices.Given as goal

abbrev pub invariant-loop-index : goal.invariant-loop-index
invariant-loop-index l =
    (option_copied l.found ≡ earliest place (flat_map (unknown_in_object (plain_signature l.sig) l.fn.scope) (map desugared_object (take l.index-index l.indices)))) ×
    (l.scope ≡ l.fn.scope)
