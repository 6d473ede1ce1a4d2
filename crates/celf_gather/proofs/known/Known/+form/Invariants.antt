-- What is left of the entries follows what has been gathered.
use Rattle.std.proofs.Common.{◌≡◌, map, drop}
use Rattle.clf_syntax.specs.TypeTree.{telescope_of}
use Rattle.clf_syntax.specs.PlainTypes.{plain_tele_entry}
use Rattle.celf_gather.specs.Formed.{telescope_after}
use Rattle.celf_gather.specs.Walks.{IsGrown, scene_of, context_of, found_of}
use Rattle.celf_gather.proofs.known.Known.+form.Given as goal

abbrev pub invariant-form_telescope-loop-entry : goal.invariant-form_telescope-loop-entry
invariant-form_telescope-loop-entry l = IsGrown l.fn.walk l.walk
    × (telescope_after (scene_of l.fn.self) (context_of l.fn.walk) (telescope_of (map plain_tele_entry l.fn.entries)) (found_of l.fn.walk)
    ≡ telescope_after (scene_of l.fn.self) (context_of l.walk) (telescope_of (map plain_tele_entry (drop l.entry-index l.fn.entries))) (found_of l.walk))
