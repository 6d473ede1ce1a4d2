use Rattle.std.proofs.Common.{◌≡◌, ℕ, List, drop, length, map}
use Rattle.clf_syntax.specs.Plain.{plain_elim, plain_entry, plain_step}
use Rattle.clf_syntax.specs.Tree.{tuple_of}
use Rattle.trace_equal.specs.Comparing as spec
use Rattle.trace_equal.specs.Seeking.{Marks, problem, tries}
use Rattle.trace_equal.specs.declared.tables.Tables.{Tables}
use Rattle.trace_equal.proofs.Seeking.{Stands, work}
use Rattle.std.specs.Prelude.{Option}
use Rattle.trace_equal.proofs.+compare.Given as goal

abbrev pub invariant-objects::joined_spine-loop-i : goal.invariant-objects::joined_spine-loop-i
invariant-objects::joined_spine-loop-i l = record {
  kept : l.tables ≡ l.initial.tables;
  lengths : length l.left ≡ length l.right;
  same : spec.compared_spine l.initial.tables (map plain_elim l.left) (map plain_elim l.right) ≡ spec.compared_spine l.initial.tables (map plain_elim (drop l.i l.left)) (map plain_elim (drop l.i l.right));
}

abbrev pub invariant-objects::joined_tuple-loop-i : goal.invariant-objects::joined_tuple-loop-i
invariant-objects::joined_tuple-loop-i l = record {
  kept : l.tables ≡ l.initial.tables;
  lengths : length l.left ≡ length l.right;
  same : spec.compared_tuple l.initial.tables (tuple_of (map plain_entry l.left)) (tuple_of (map plain_entry l.right)) ≡ spec.compared_tuple l.initial.tables (tuple_of (map plain_entry (drop l.i l.left))) (tuple_of (map plain_entry (drop l.i l.right)));
}

abbrev pub invariant-serving::next_taken-loop-number : goal.invariant-serving::next_taken-loop-number
invariant-serving::next_taken-loop-number l = record {
  kept : l.tables ≡ l.initial.tables;
  passed : (used : List ℕ) → Marks used l.choice.used → (rest : ℕ → Tables → Option (List ℕ))
      → tries rest (spec.zipped l.rights.before (map plain_step l.right)) l.initial.tables used (plain_step l.left) (drop l.from l.places)
      ≡ tries rest (spec.zipped l.rights.before (map plain_step l.right)) l.initial.tables used (plain_step l.left) (drop l.number l.places);
}

abbrev pub invariant-backtracking::search-loop-choice : goal.invariant-backtracking::search-loop-choice
invariant-backtracking::search-loop-choice l = Stands (problem l.left l.right l.rights.before l.rights.all (map (λ c. c.now) l.candidates)) l.initial.tables l.tables l.choice l.from

abbrev pub decreases-backtracking::search-loop-choice : goal.decreases-backtracking::search-loop-choice
decreases-backtracking::search-loop-choice l = work (map (λ c. c.now) l.candidates) l.choice.taken l.from
