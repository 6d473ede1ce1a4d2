-- So many newer variables are held.
use Rattle.std.proofs.Common.{◌≡◌, List, length}
use Rattle.clf_syntax.specs.declared.tree.Mode.{Mode}
use Rattle.use_contexts.specs.Holding.{all_held}
use Rattle.use_contexts.specs.Marks.{marks}
use Rattle.clf_kernel.proofs.trail.hold_entries.Given as goal

abbrev pub invariant-loop-entry : goal.invariant-loop-entry
invariant-loop-entry l = (ms : List Mode) → length ms ≡ l._entry → marks l.row ≡ all_held ms (marks l.fn.row)
