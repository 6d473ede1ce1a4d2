-- What is there so far is of the first entries.
use Rattle.std.proofs.Common.{◌≡◌, map, take}
use Rattle.clf_sig.specs.Signature.{plain_signature}
use Rattle.celf_sugar.specs.Plain.{desugared_entry}
use Rattle.celf_places.specs.Locals.{plain_place}
use Rattle.celf_filled.specs.WalkTypes.{entry_place}
use Rattle.celf_filled.proofs.types.simples_of.Given as goal

abbrev pub invariant-loop-entry : goal.invariant-loop-entry
invariant-loop-entry l = map plain_place l.simples ≡ map (entry_place (plain_signature l.sig)) (map desugared_entry (take l.entry-index l.entries))
