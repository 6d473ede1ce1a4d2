-- The newest entries are joined, and the others are as the first row has them.
use Rattle.std.proofs.Common.{◌≡◌, length}
use Rattle.use_contexts.specs.Marks.{marks}
use Rattle.use_contexts.specs.Rows.{left_in_both}
use Rattle.use_contexts.proofs.Lookups.{half_joined}
use Rattle.use_contexts.proofs.join.left_in_both.Given as goal

abbrev pub invariant-loop-var : goal.invariant-loop-var
invariant-loop-var l = record {
  same_length : length (marks l.row) ≡ length (marks l.second);
  joined : left_in_both (marks l.fn.first) (marks l.second) ≡ half_joined l.var (marks l.row) (marks l.second);
}
