-- What it means that the check agrees with the rules: of objects, neutrals, expressions and tuples.
use Rattle.std.proofs.Common.{◌≡◌, ℕ, Some}
use Rattle.clf_syntax.specs.Tree.{PlainObject, PlainNeutral, PlainExpression, PlainTuple}
use Rattle.clf_syntax.specs.TypeTree.{PlainType, PlainTelescope, PlainKind}
use Rattle.clf_syntax.specs.Simple.{SimplyFormed, SimplyFormedTelescope, SimplyFormedContext}
use Rattle.use_contexts.specs.Context.{Context, modes}
use Rattle.use_contexts.specs.Holding.{Holding}
use Rattle.use_contexts.specs.Rows.{IsSubholding, Agrees, Leftover}
use Rattle.clf_sig.specs.Entry.{PlainSignature, PlainClass}
use Rattle.clf_rules.specs.Typing.{HasType, Synthesizes, ExpressionHasType, TupleHasType}
use Rattle.clf_rules.specs.WellFormed.{WellFormedType, WellFormedTelescope, WellFormedKind, WellFormedClass}
use Rattle.typing_laws.specs.SimpleTyping.{constants_of, simple_of, families_of}
use Rattle.clf_decision.specs.Outcome.{Outcome, passed, refused, answer_of}
use Rattle.clf_decision.specs.Checking.{Puts, checked, inferred, checked_expression, checked_tuple}
use Rattle.clf_decision.specs.Formation.{type_formed, telescope_formed, kind_formed, class_formed}
use Rattle.clf_decision.specs.Starts.{Starts}
use Rattle.clf_decision.proofs.DecidedOutcomes.{Decided}

-- An outcome with a type agrees with a property of parts and types: where it passed, the row that is left stands for exactly the parts
-- that have the property at that type, and they have it at no other. Where it is refused, no part has it at any type.
abbrev pub AgreesWithType : Context → Holding → Outcome (PlainType × Leftover) → (Holding → PlainType → Type 0) → Type 0
AgreesWithType g h (passed f) P = Agrees (modes g) h (Some f.1) (λ p. P p f.0) × ((p : Holding) (a : PlainType) → P p a → a ≡ f.0)
AgreesWithType g h (refused path cause) P = (p : Holding) (a : PlainType) → IsSubholding (modes g) h p → P p a → ⊥

-- The checks agree with the rules, from every start.
pub record ChecksAgree (puts : Puts) (sig : PlainSignature) : Type 0 where
  pub objects : (n : PlainObject) (g : Context) (h : Holding) (t : PlainType) → Starts sig g h → SimplyFormed (families_of sig) (simple_of sig g) t
      → Agrees (modes g) h (answer_of (checked puts sig g h n t)) (λ p. HasType sig g p n t)
  pub neutrals : (r : PlainNeutral) (g : Context) (h : Holding) → Starts sig g h → AgreesWithType g h (inferred puts sig g h r) (λ p a. Synthesizes sig g p r a)
  pub expressions : (e : PlainExpression) (g : Context) (h : Holding) (place : ℕ) (s : PlainTelescope) → Starts sig g h → SimplyFormedTelescope (families_of sig) (simple_of sig g) s
      → Agrees (modes g) h (answer_of (checked_expression puts sig g h place e s)) (λ p. ExpressionHasType sig g p e s)
  pub tuples : (t : PlainTuple) (g : Context) (h : Holding) (steps before : ℕ) (s : PlainTelescope) → Starts sig g h → SimplyFormedTelescope (families_of sig) (simple_of sig g) s
      → Agrees (modes g) h (answer_of (checked_tuple puts sig g h steps before t s)) (λ p. TupleHasType sig g p t s)

-- The checks of formation agree with the rules, over a well-formed signature and in contexts that are simply formed.
pub record FormationAgrees (puts : Puts) (sig : PlainSignature) : Type 0 where
  pub types : (a : PlainType) (g : Context) → SimplyFormedContext (families_of sig) (constants_of sig) g → Decided (type_formed puts sig g a) (WellFormedType sig g a)
  pub telescopes : (s : PlainTelescope) (g : Context) (place : ℕ) → SimplyFormedContext (families_of sig) (constants_of sig) g → Decided (telescope_formed puts sig g place s) (WellFormedTelescope sig g s)
  pub kinds : (k : PlainKind) (g : Context) (place : ℕ) → SimplyFormedContext (families_of sig) (constants_of sig) g → Decided (kind_formed puts sig g place k) (WellFormedKind sig g k)
  pub classes : (c : PlainClass) → Decided (class_formed puts sig c) (WellFormedClass sig c)
