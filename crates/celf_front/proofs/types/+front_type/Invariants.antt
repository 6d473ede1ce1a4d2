use Rattle.std.proofs.Common.{◌≡◌, drop, map}
use Rattle.clf_syntax.specs.PlainTypes.{plain_tele_entry}
use Rattle.clf_syntax.specs.TypeTree.{telescope_of}
use Rattle.clf_syntax.specs.Renumbered.{entries_on}
use Rattle.celf_front.specs.FrontHeads.{heads_by}
use Rattle.celf_front.specs.Replaced as spec
use Rattle.celf_front.proofs.types.+front_type.Given as goal

abbrev pub invariant-front_entries-loop-entry : goal.invariant-front_entries-loop-entry
invariant-front_entries-loop-entry l = spec.replaced_telescope (heads_by l.front) l.depth (telescope_of (map plain_tele_entry l.entries)) ≡ entries_on (map plain_tele_entry l.placed) (spec.replaced_telescope (heads_by l.front) l.inner (telescope_of (map plain_tele_entry (drop l.entry-index l.entries))))
