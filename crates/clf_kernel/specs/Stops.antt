-- Inner: what the functions inside of the kernel answer. No call of the crate names these definitions.
use Rattle.std.specs.Prelude.{ℕ, ◌≡◌, List, ◌∷◌, reverse, Result, Ok, Err}
use Rattle.clf_syntax.specs.declared.fault.OrWide.{OrWide}
use Rattle.clf_syntax.specs.declared.fault.OrWide.TheVariants.{Fault, NoMemory, TooFar}
use Rattle.clf_syntax.specs.Wide.{IsWide}
use Rattle.clf_kernel.specs.declared.refusal.Refusal.{Refusal}
use Rattle.clf_kernel.specs.declared.refusal.Stop.{Stop}
use Rattle.clf_kernel.specs.declared.refusal.Stop.TheVariants.{Refused, NoMemory as StopNoMemory, TooFar as StopTooFar}
use Rattle.clf_rules.specs.Refusal.{Cause}
use Rattle.clf_decision.specs.Outcome.{Outcome, passed, refused}
use Rattle.clf_kernel.specs.Answers.{plain_cause}

-- A check that stops does not pass: it is refused, where the path has the number of the innermost part first, or ends for want of
-- memory or of numbers.
abbrev pub Stops : {A : Type 0} → Outcome A → Stop → Type 0
Stops want (Refused outward cause) = want ≡ refused (reverse outward.items) (plain_cause cause)
Stops want StopNoMemory = Unit {0}
Stops want (StopTooFar w) = IsWide w

abbrev pub Gives : {X A : Type 0} → (X → A) → Outcome A → Result X Stop → Type 0
Gives plain want (Ok x) = want ≡ passed (plain x)
Gives plain want (Err stop) = Stops want stop

-- A check is refused at this path for this cause, if it does not end for lack of memory or of numbers.
abbrev pub Ends : List ℕ → Cause → Stop → Type 0
Ends path cause (Refused outward c) = (reverse outward.items ≡ path) × (plain_cause c ≡ cause)
Ends path cause StopNoMemory = Unit {0}
Ends path cause (StopTooFar w) = IsWide w

-- A check ends for lack of memory or of numbers.
abbrev pub IsShort : Stop → Type 0
IsShort (Refused outward cause) = ⊥
IsShort StopNoMemory = Unit {0}
IsShort (StopTooFar w) = IsWide w

-- What ends the check of the part with this number, and then what ends the check of the whole.
abbrev pub IsPartOf : ℕ → Stop → Stop → Type 0
IsPartOf place (Refused outward cause) whole = Ends (place ∷ reverse outward.items) (plain_cause cause) whole
IsPartOf place StopNoMemory whole = whole ≡ StopNoMemory
IsPartOf place (StopTooFar w) whole = whole ≡ StopTooFar w

-- The fault that a call answers where its check ends so.
abbrev pub IsFault : Stop → OrWide Refusal → Type 0
IsFault (Refused outward cause) (Fault r) = (r.path.items ≡ reverse outward.items) × (r.cause ≡ cause)
IsFault StopNoMemory NoMemory = Unit {0}
IsFault (StopTooFar w) (TooFar v) = v ≡ w
IsFault _ _ = ⊥

-- A call answers an outcome: what passed in its plain form, or the refusal with its path and its cause.
abbrev pub Answers : {X A : Type 0} → (X → A) → Outcome A → Result X (OrWide Refusal) → Type 0
Answers plain want (Ok x) = want ≡ passed (plain x)
Answers plain want (Err (Fault r)) = want ≡ refused r.path.items (plain_cause r.cause)
Answers plain want (Err NoMemory) = Unit {0}
Answers plain want (Err (TooFar w)) = IsWide w
