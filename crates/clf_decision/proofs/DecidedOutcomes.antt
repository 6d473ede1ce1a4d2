-- Outcomes that decide statements.
use Rattle.std.specs.Prelude.{ℕ}
use Rattle.clf_decision.specs.Outcome.{Outcome, passed, refused, at_part, and_then}

-- An outcome decides a statement: it holds where the outcome passed, and not where it is refused.
abbrev pub Decided : {A : Type 0} → Outcome A → Type 0 → Type 0
Decided (passed a) P = P
Decided (refused path cause) P = P → ⊥

pub decided_as : {A P Q : Type 0} (o : Outcome A) → (P → Q) → (Q → P) → Decided o P → Decided o Q
decided_as (passed a) f k p = f p
decided_as (refused path cause) f k p = λ q. p (k q)

-- Two things in turn: the second is decided where the first holds.
pub decided_next : {A B : Type 0} (P Q : Type 0) (a : Outcome A) (b : Outcome B) → Decided a P → (P → Decided b Q) → Decided (and_then a (λ x. b)) (P × Q)
decided_next P Q (passed x) (passed y) p q = (p, q p)
decided_next P Q (passed x) (refused path cause) p q = λ r. q p r.1
decided_next P Q (refused path cause) b p q = λ r. p r.0

pub decided_part : {A : Type 0} (P : Type 0) (i : ℕ) (a : Outcome A) → Decided a P → Decided (at_part i a) P
decided_part P i (passed x) p = p
decided_part P i (refused path cause) p = p
