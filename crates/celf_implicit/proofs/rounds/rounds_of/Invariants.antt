-- The variables are those of some rounds. Each further round leaves fewer occurrences.
use Rattle.std.proofs.Common.{◌≡◌, ℕ, map, length}
use Rattle.clf_sig.specs.Signature.{plain_signature}
use Rattle.celf_sugar.specs.Plain.{body_of}
use Rattle.celf_implicit.specs.Rounds.{open_occurrences, after_rounds}
use Rattle.celf_implicit.specs.Answers.{plain_implicit}
use Rattle.celf_implicit.proofs.rounds.rounds_of.Given as goal

abbrev pub invariant-loop-found : goal.invariant-loop-found
invariant-loop-found l = (n : ℕ) × (map plain_implicit l.found ≡ after_rounds (plain_signature l.sig) (body_of l.body) n)

abbrev pub decreases-loop-found : goal.decreases-loop-found
decreases-loop-found l = length (open_occurrences (plain_signature l.sig) (body_of l.body) (map plain_implicit l.found))
