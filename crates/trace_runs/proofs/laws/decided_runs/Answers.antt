use Rattle.trace_runs.proofs.Decided.{runs-are-decided}
use Rattle.trace_runs.proofs.laws.decided_runs.Goals as goal

pub returns-clause-decided : goal.returns-clause-decided
returns-clause-decided c = runs-are-decided
