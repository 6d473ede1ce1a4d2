use Rattle.std.proofs.Common.{◌≡◌, ◌+◌, List, length}
use Rattle.trace_equal.specs.declared.tables.Run.{Run}
use Rattle.trace_equal.specs.declared.tables.Tables.{Tables}
use Rattle.trace_equal.specs.Comparing as spec
use Rattle.trace_equal.proofs.tables.Tables.leave_steps.Given as goal

abbrev pub invariant-loop-step : goal.invariant-loop-step
invariant-loop-step l = (s : Tables) (rs : List Run) → l.initial.self ≡ spec.with_steps s rs → length rs ≡ l.count
    → (qs : List Run) × (l.self ≡ spec.with_steps s qs) × (length qs + l._step ≡ l.count)
