-- Inner: what the functions inside of the replay answer. No public call names these definitions.
use Rattle.std.specs.Prelude.{ℕ, ◌≡◌, List, ◌∷◌, Result, Ok, Err}
use Rattle.clf_syntax.specs.declared.fault.OrWide.{OrWide}
use Rattle.clf_syntax.specs.declared.fault.OrWide.TheVariants.{Fault, NoMemory, TooFar}
use Rattle.clf_syntax.specs.declared.tree.Mode.{Mode}
use Rattle.clf_syntax.specs.Tree.{PlainNeutral}
use Rattle.clf_syntax.specs.Wide.{IsWide}
use Rattle.use_contexts.specs.declared.holding.State.{State}
use Rattle.clf_sig.specs.Entry.{PlainSignature}
use Rattle.clf_rules.specs.Refusal.{Cause}
use Rattle.clf_kernel.specs.declared.refusal.Refusal.{Refusal}
use Rattle.clf_kernel.specs.Answers.{plain_cause}
use Rattle.trace_runs.specs.Refused.{RefusesStep}
use Rattle.trace_runs.specs.Run.{PlainState, TakesStep, plain_state}

-- A call answers this refusal, unless it wants memory or numbers.
abbrev pub IsRefused : List ℕ → Cause → OrWide Refusal → Type 0
IsRefused path why (Fault r) = (r.path.items ≡ path) × (plain_cause r.cause ≡ why)
IsRefused path why NoMemory = Unit {0}
IsRefused path why (TooFar w) = IsWide w

-- What a step answers, and what the replay answers for it: a refusal has the step's number in front of its path.
abbrev pub IsBehind : ℕ → OrWide Refusal → OrWide Refusal → Type 0
IsBehind place (Fault r) whole = IsRefused (place ∷ r.path.items) (plain_cause r.cause) whole
IsBehind place NoMemory whole = whole ≡ NoMemory
IsBehind place (TooFar w) whole = whole ≡ TooFar w

-- One step is taken, or refused.
abbrev pub Steps : PlainSignature → List Mode × PlainNeutral → PlainState → Result State (OrWide Refusal) → Type 0
Steps sig x before (Ok after) = TakesStep sig x.0 x.1 before (plain_state after)
Steps sig x before (Err (Fault r)) = RefusesStep sig before x.0 x.1 r.path.items (plain_cause r.cause)
Steps sig x before (Err NoMemory) = Unit {0}
Steps sig x before (Err (TooFar w)) = IsWide w

-- So it is with the step that has this number, which begins the path of a refusal.
abbrev pub StepsAt : ℕ → PlainSignature → List Mode × PlainNeutral → PlainState → Result State (OrWide Refusal) → Type 0
StepsAt place sig x before (Ok after) = TakesStep sig x.0 x.1 before (plain_state after)
StepsAt place sig x before (Err (Fault r)) = (path : List ℕ) × (r.path.items ≡ place ∷ path) × RefusesStep sig before x.0 x.1 path (plain_cause r.cause)
StepsAt place sig x before (Err NoMemory) = Unit {0}
StepsAt place sig x before (Err (TooFar w)) = IsWide w
