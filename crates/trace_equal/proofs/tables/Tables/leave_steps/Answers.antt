use Rattle.std.proofs.Common.{◌≡◌, ◌+◌, ℕ, ◌<◌, ◌≤◌, List, [], ◌∷◌, length, arith}
use Rattle.trace_equal.specs.declared.tables.Run.{Run}
use Rattle.trace_equal.specs.declared.tables.Tables.{Tables}
use Rattle.trace_equal.specs.Comparing.{with_left, with_steps}
use Rattle.trace_equal.proofs.tables.Tables.leave_steps.Goals as goal

-- One run of some is left.
left : (s x y : Tables) (n m : ℕ) → n < m → ((b : Tables) (r : Run) → x ≡ with_left b r → y ≡ b) → (qs : List Run) → x ≡ with_steps s qs → length qs + n ≡ m → (rs : List Run) × (y ≡ with_steps s rs) × (length rs + (n + 1) ≡ m)
left s x y n m h k [] e f = absurd (omega arith)
left s x y n m h k (r ∷ qs) e f = (qs, k (with_steps s qs) r e, omega arith)

none : (s x : Tables) (n m : ℕ) → m ≤ n → (qs : List Run) → x ≡ with_steps s qs → length qs + n ≡ m → x ≡ s
none s x n m h [] e f = e
none s x n m h (r ∷ qs) e f = absurd (omega arith)

pub loop-step-preserved : goal.loop-step-preserved
loop-step-preserved c s rs e f = let (qs, g, h) = c.loop-step.invariant s rs e f in left s c.loop-step.self c.leave_left.new.self c.loop-step._step c.args.count c.loop-step-test.true c.leave_left.ensures qs g h

pub returns : goal.returns
returns c s rs e f = let (qs, g, h) = c.loop-step.invariant s rs e f in none s c.loop-step.self c.loop-step._step c.args.count c.loop-step-test.false qs g h
