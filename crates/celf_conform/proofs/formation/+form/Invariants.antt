use Rattle.std.proofs.Common.{◌≡◌, map, drop}
use Rattle.clf_syntax.specs.PlainTypes.{plain_tele_entry}
use Rattle.clf_syntax.specs.TypeTree.{telescope_of}
use Rattle.celf_conform.specs.Decision as spec
use Rattle.celf_conform.specs.Seen.{known_of, owned}
use Rattle.celf_conform.proofs.formation.+form.Given as goal

abbrev pub invariant-telescope_misfit-loop-entry : goal.invariant-telescope_misfit-loop-entry
invariant-telescope_misfit-loop-entry l = spec.telescope_misfit (known_of l.known) (owned l.inner.types) (telescope_of (map plain_tele_entry (drop l.entry-index l.entries)))
    ≡ spec.telescope_misfit (known_of l.known) (owned l.scope.types) (telescope_of (map plain_tele_entry l.entries))
