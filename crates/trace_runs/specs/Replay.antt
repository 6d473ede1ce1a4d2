-- What the replay of steps answers, in words of the rules.
use Rattle.std.specs.Prelude.{List, Result, Ok, Err}
use Rattle.clf_syntax.specs.declared.fault.OrWide.{OrWide}
use Rattle.clf_syntax.specs.declared.fault.OrWide.TheVariants.{Fault, NoMemory, TooFar}
use Rattle.clf_syntax.specs.declared.tree.Mode.{Mode}
use Rattle.clf_syntax.specs.Tree.{PlainNeutral}
use Rattle.clf_syntax.specs.Wide.{IsWide}
use Rattle.use_contexts.specs.declared.holding.State.{State}
use Rattle.clf_sig.specs.Entry.{PlainSignature}
use Rattle.clf_kernel.specs.declared.refusal.Refusal.{Refusal}
use Rattle.clf_kernel.specs.Answers.{plain_cause}
use Rattle.trace_runs.specs.Refused.{RefusesRun}
use Rattle.trace_runs.specs.Run.{IsRun, PlainState, plain_state}

-- The steps lead to the state that is answered. A refusal comes exactly where they are no run, and says which of them is refused, and why.
abbrev pub Replays : PlainSignature → List (List Mode × PlainNeutral) → PlainState → Result State (OrWide Refusal) → Type 0
Replays sig xs before (Ok after) = IsRun sig xs before (plain_state after)
Replays sig xs before (Err (Fault r)) = ((after : PlainState) → IsRun sig xs before after → ⊥) × RefusesRun sig xs before r.path.items (plain_cause r.cause)
Replays sig xs before (Err NoMemory) = Unit {0}
Replays sig xs before (Err (TooFar w)) = IsWide w
