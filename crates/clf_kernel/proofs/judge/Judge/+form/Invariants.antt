-- What is left of the entries follows what has been done.
use Rattle.std.proofs.Common.{◌≡◌, drop, map}
use Rattle.clf_syntax.specs.TypeTree.{telescope_of}
use Rattle.clf_syntax.specs.PlainTypes.{plain_tele_entry}
use Rattle.clf_decision.specs.Formation.{telescope_formed}
use Rattle.clf_decision.specs.Hereditary.{hereditary}
use Rattle.clf_kernel.specs.Judge.{IsGrown, signature_of, context_of}
use Rattle.clf_kernel.proofs.judge.Judge.+form.Given as goal

abbrev pub invariant-form_telescope-loop-entry : goal.invariant-form_telescope-loop-entry
invariant-form_telescope-loop-entry l = (l.place ≡ l.entry-index) × IsGrown l.fn.self l.self
    × (telescope_formed hereditary (signature_of l.fn.self) (context_of l.fn.self) 0 (telescope_of (map plain_tele_entry l.fn.entries))
    ≡ telescope_formed hereditary (signature_of l.fn.self) (context_of l.self) l.entry-index (telescope_of (map plain_tele_entry (drop l.entry-index l.fn.entries))))
