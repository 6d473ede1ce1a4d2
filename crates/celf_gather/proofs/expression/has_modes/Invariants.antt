-- What is left of the entries follows what has been compared.
use Rattle.std.proofs.Common.{◌≡◌, map, length, drop}
use Rattle.clf_syntax.specs.PlainTypes.{plain_tele_entry}
use Rattle.clf_syntax.specs.TypeTree.{telescope_of}
use Rattle.celf_gather.specs.Gathered.{modes_fit}
use Rattle.celf_gather.proofs.expression.has_modes.Given as goal

abbrev pub invariant-loop-place : goal.invariant-loop-place
invariant-loop-place l = (length l.entries ≡ length l.modes)
    × (modes_fit (telescope_of (map plain_tele_entry (drop l.place l.entries))) (drop l.place l.modes) ≡ modes_fit (telescope_of (map plain_tele_entry l.entries)) l.modes)
