-- Inner: what a check answers, as a function of plain trees: something that passed, or a refusal with its path.
use Rattle.std.specs.Prelude.{ℕ, List, ◌∷◌, None, Some}
use Rattle.use_contexts.specs.Rows.{Leftover, Answer}
use Rattle.clf_rules.specs.Refusal.{Cause}

pub data Outcome (A : Type 0) : Type 0 where
  passed : A → Outcome A
  -- the path to the part that is refused, and why
  refused : List ℕ → Cause → Outcome A

-- the outcome of the part with this number, as part of the whole
abbrev pub at_part : {A : Type 0} → ℕ → Outcome A → Outcome A
at_part k (passed a) = passed a
at_part k (refused path cause) = refused (k ∷ path) cause

-- what comes after a part that passed
abbrev pub and_then : {A B : Type 0} → Outcome A → (A → Outcome B) → Outcome B
and_then (passed a) f = f a
and_then (refused path cause) f = refused path cause

-- the answer of an outcome, without the words of its refusal
abbrev pub answer_of : Outcome Leftover → Answer
answer_of (passed a) = Some a
answer_of (refused path cause) = None
