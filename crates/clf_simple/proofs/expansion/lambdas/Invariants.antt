use Rattle.std.proofs.Common.{◌≡◌, ◌+◌, ◌≤◌, drop}
use Rattle.clf_simple.specs.Noted.{lambdas}
use Rattle.clf_simple.specs.Roots.{plain_notes}
use Rattle.clf_simple.proofs.expansion.lambdas.Given as goal

abbrev pub invariant-loop-note : goal.invariant-loop-note
invariant-loop-note l = record {
  counted : l.met + lambdas (plain_notes (drop l.note-index l.noted)) ≡ lambdas (plain_notes l.noted);
  few : l.met ≤ l.note-index;
}
