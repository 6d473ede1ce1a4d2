-- Laws of what the checks answer, as statements; the functions of the crate's `laws` state them.
use Rattle.std.specs.Prelude.{ℕ, ◌≡◌, ◌↔◌, ◌⊎◌, Bool, true, false, List, None, Some}
use Rattle.clf_syntax.specs.Tree.{PlainObject, monadic, PlainNeutral, PlainExpression}
use Rattle.clf_syntax.specs.TypeTree.{PlainType, monad, PlainTelescope, PlainKind}
use Rattle.clf_syntax.specs.Simple.{SimplyFormed, SimplyFormedTelescope}
use Rattle.use_contexts.specs.Context.{Context, modes}
use Rattle.use_contexts.specs.Holding.{Holding, WellMarked, is_weak}
use Rattle.use_contexts.specs.Rows.{IsSubholding, Stands, Agrees, Leftover}
use Rattle.clf_sig.specs.Entry.{PlainSignature, PlainEntry}
use Rattle.clf_rules.specs.Typing.{HasType, Synthesizes, ExpressionHasType}
use Rattle.clf_rules.specs.WellFormed.{WellFormedType, WellFormedKind, WellFormedEntry}
use Rattle.clf_rules.specs.Refusal.{Cause}
use Rattle.clf_rules.specs.Explained.{ExplainedAt, ExplainedInNeutral, ExplainedInType, ExplainedInKind, ExplainedInClass}
use Rattle.typing_laws.specs.SimpleTyping.{simple_of, families_of}
use Rattle.clf_decision.specs.Starts.{Starts, FormationStarts, EntryStarts}

-- ---- what is left

-- The neutral synthesizes this type and no other, and what is left stands for exactly the parts of the holding under which it does.
abbrev pub InferredIs : PlainSignature → Context → Holding → PlainNeutral → PlainType × Leftover → Type 0
InferredIs sig g h r found = Agrees (modes g) h (Some found.1) (λ p. Synthesizes sig g p r found.0) × ((p : Holding) (a : PlainType) → Synthesizes sig g p r a → a ≡ found.0)

-- Two leftovers have the same row, and the same slack where a linear entry is left.
abbrev pub LeaveTheSame : Context → Leftover → Leftover → Type 0
LeaveTheSame g a b = (a.0 ≡ b.0) × (is_weak (modes g) a.0 ≡ false → a.1 ≡ b.1)

-- Where no linear entry is left, slack has nothing to take: with it and without it a row stands for the same parts.
abbrev pub SlackIsIdle : Type 0
SlackIsIdle = (g : Context) (h l : Holding) (s t : Bool) (p : Holding) → is_weak (modes g) l ≡ true → Stands (modes g) h l s p → Stands (modes g) h l t p

-- What stands for exactly the parts under which an object has a type is one.
abbrev pub LeftoverIsOne : Type 0
LeftoverIsOne = (sig : PlainSignature) (g : Context) (h : Holding) (n : PlainObject) (t : PlainType) (a b : Leftover) → WellMarked (modes g) h
    → Agrees (modes g) h (Some a) (λ p. HasType sig g p n t) → Agrees (modes g) h (Some b) (λ p. HasType sig g p n t) → LeaveTheSame g a b

-- So it is with a neutral and its type.
abbrev pub InferredIsOne : Type 0
InferredIsOne = (sig : PlainSignature) (g : Context) (h : Holding) (r : PlainNeutral) (e f : PlainType × Leftover) → WellMarked (modes g) h
    → InferredIs sig g h r e → InferredIs sig g h r f → (e.0 ≡ f.0) × LeaveTheSame g e.1 f.1

-- ---- refusals

-- What the rules decide, and explain where it fails.
pub record IsDecided (Holds Fails : Type 0) (Explains : List ℕ → Cause → Type 0) : Type 0 where
  -- It holds, or some refusal explains why it does not.
  pub decided : Holds ⊎ ((path : List ℕ) × (why : Cause) × Explains path why)
  -- It fails exactly where some refusal explains it,
  pub explained : Fails ↔ ((path : List ℕ) × (why : Cause) × Explains path why)
  -- and that is one, with its path and its cause.
  pub one : (path other : List ℕ) (why because : Cause) → Explains path why → Explains other because → (path ≡ other) × (why ≡ because)

-- Some row stands for exactly the parts of the holding that type the object, or no part does.
abbrev pub ObjectsAreDecided : Type 0
ObjectsAreDecided = (sig : PlainSignature) (g : Context) (h : Holding) (n : PlainObject) (t : PlainType) → Starts sig g h → SimplyFormed (families_of sig) (simple_of sig g) t
    → IsDecided ((a : Leftover) × Agrees (modes g) h (Some a) (λ p. HasType sig g p n t)) (Agrees (modes g) h None (λ p. HasType sig g p n t)) (ExplainedAt sig g h n t)

-- A neutral synthesizes one type, or none under any part.
abbrev pub NeutralsAreDecided : Type 0
NeutralsAreDecided = (sig : PlainSignature) (g : Context) (h : Holding) (r : PlainNeutral) → Starts sig g h
    → IsDecided ((found : PlainType × Leftover) × InferredIs sig g h r found) ((p : Holding) (a : PlainType) → IsSubholding (modes g) h p → Synthesizes sig g p r a → ⊥) (ExplainedInNeutral sig g h r)

-- So it is with expressions; a path in one is that in its monadic object.
abbrev pub ExpressionsAreDecided : Type 0
ExpressionsAreDecided = (sig : PlainSignature) (g : Context) (h : Holding) (e : PlainExpression) (s : PlainTelescope) → Starts sig g h → SimplyFormedTelescope (families_of sig) (simple_of sig g) s
    → IsDecided ((a : Leftover) × Agrees (modes g) h (Some a) (λ p. ExpressionHasType sig g p e s)) (Agrees (modes g) h None (λ p. ExpressionHasType sig g p e s)) (ExplainedAt sig g h (monadic e) (monad s))

-- Types, kinds and entries are well formed, or not.
abbrev pub TypesAreDecided : Type 0
TypesAreDecided = (sig : PlainSignature) (g : Context) (a : PlainType) → FormationStarts sig g → IsDecided (WellFormedType sig g a) (WellFormedType sig g a → ⊥) (ExplainedInType sig g a)

abbrev pub KindsAreDecided : Type 0
KindsAreDecided = (sig : PlainSignature) (g : Context) (k : PlainKind) → FormationStarts sig g → IsDecided (WellFormedKind sig g k) (WellFormedKind sig g k → ⊥) (ExplainedInKind sig g k)

abbrev pub EntriesAreDecided : Type 0
EntriesAreDecided = (sig : PlainSignature) (e : PlainEntry) → EntryStarts sig e → IsDecided (WellFormedEntry sig e) (WellFormedEntry sig e → ⊥) (ExplainedInClass sig e.class)
