use Rattle.std.proofs.Common.{◌≡◌, ℕ, drop, map, min}
use Rattle.std.specs.List.{list_any}
use Rattle.clf_syntax.specs.declared.number.TheConstants.{BEYOND}
use Rattle.clf_syntax.specs.Plain.{plain_obj}
use Rattle.clf_syntax.specs.Occurs.{occurs}
use Rattle.clf_syntax.proofs.occurs.occurs_indices.Given as goal

abbrev pub invariant-loop-index : goal.invariant-loop-index
invariant-loop-index l = (v : ℕ) → min v BEYOND ≡ l.var → list_any (occurs v) (map plain_obj (drop l.index-index l.indices)) ≡ list_any (occurs v) (map plain_obj l.indices)
