-- What the rules decide, and explain where it fails.
use Rattle.std.specs.Prelude.{◌≡◌, ◌↔◌, ℕ, List, None, Some, refl}
use Rattle.std.proofs.Common.{inl, inr}
use Rattle.clf_syntax.specs.Tree.{monadic, PlainNeutral}
use Rattle.clf_syntax.specs.TypeTree.{PlainType, monad}
use Rattle.use_contexts.specs.Context.{Context, modes}
use Rattle.use_contexts.specs.Holding.{Holding}
use Rattle.use_contexts.specs.Rows.{IsSubholding, Agrees, Leftover}
use Rattle.clf_sig.specs.Entry.{PlainSignature}
use Rattle.clf_rules.specs.Typing.{HasType, Synthesizes, ExpressionHasType}
use Rattle.clf_rules.specs.WellFormed.{WellFormedType, WellFormedKind, WellFormedEntry}
use Rattle.clf_rules.specs.Refusal.{Cause}
use Rattle.clf_rules.specs.Explained.{ExplainedAt, ExplainedInNeutral, ExplainedInType, ExplainedInKind, ExplainedInClass}
use Rattle.clf_rules.proofs.UsedParts.{some-part}
use Rattle.clf_decision.specs.Outcome.{Outcome, passed, refused, answer_of}
use Rattle.clf_decision.specs.Checking.{Puts, checked, inferred, checked_expression}
use Rattle.clf_decision.specs.Formation.{type_formed, kind_formed, class_formed}
use Rattle.clf_decision.specs.Puts.{ArePuts}
use Rattle.clf_decision.specs.Laws.{IsDecided, InferredIs, ObjectsAreDecided, NeutralsAreDecided, ExpressionsAreDecided, TypesAreDecided, KindsAreDecided, EntriesAreDecided}
use Rattle.clf_decision.proofs.AgreesWith.{AgreesWithType}
use Rattle.clf_decision.proofs.DecidedOutcomes.{Decided, decided_as}
use Rattle.clf_decision.proofs.Agreement.{checks_agree}
use Rattle.clf_decision.proofs.AgreementOfTypes.{formation_agrees}
use Rattle.clf_decision.proofs.FirstRefusals.{refuses_exactly, refuses_neutrals_exactly}
use Rattle.clf_decision.proofs.FirstRefusalsOfTypes.{types_refuse_exactly, kinds_refuse_exactly, classes_refuse_exactly}

same_refusal : {A : Type 0} (o : Outcome A) (path other : List ℕ) (why because : Cause) → o ≡ refused path why → o ≡ refused other because → (path ≡ other) × (why ≡ because)
same_refusal o path other why because e f = (cc, cc)

-- What an outcome says of what holds and fails: that it holds where the outcome passed, and fails where it is refused.
abbrev Tells : {A : Type 0} → Outcome A → Type 0 → Type 0 → Type 0
Tells (passed a) Holds Fails = Holds × (Fails → ⊥)
Tells (refused path why) Holds Fails = Fails

by_outcome : {A : Type 0} (Holds Fails : Type 0) (Explains : List ℕ → Cause → Type 0) (o : Outcome A) → Tells o Holds Fails → ((path : List ℕ) (why : Cause) → (o ≡ refused path why) ↔ Explains path why)
    → IsDecided Holds Fails Explains
by_outcome Holds Fails Explains (passed a) t f = record {
  decided = inl t.0;
  explained = ((λ x. absurd (t.1 x)), (λ x. let q = (f x.0 x.1).1 x.2 in absurd (cc)));
  one = λ path other why because x y. same_refusal (passed a) path other why because ((f path why).1 x) ((f other because).1 y);
}
by_outcome Holds Fails Explains (refused path why) t f = record {
  decided = inr (path, why, (f path why).0 refl);
  explained = ((λ x. (path, why, (f path why).0 refl)), (λ x. t));
  one = λ here other why' because x y. same_refusal (refused path why) here other why' because ((f here why').1 x) ((f other because).1 y);
}

-- of parts of a holding
parts_tell : (g : Context) (h : Holding) (o : Outcome Leftover) (P : Holding → Type 0) → Agrees (modes g) h (answer_of o) P → Tells o ((a : Leftover) × Agrees (modes g) h (Some a) P) (Agrees (modes g) h None P)
parts_tell g h (passed a) P u = ((a, u), (λ none. let p = some-part (modes g) h a P u in none p.0 p.1 p.2))
parts_tell g h (refused path why) P u = u

type_tells : (sig : PlainSignature) (g : Context) (h : Holding) (r : PlainNeutral) (o : Outcome (PlainType × Leftover)) → AgreesWithType g h o (λ p a. Synthesizes sig g p r a)
    → Tells o ((found : PlainType × Leftover) × InferredIs sig g h r found) ((p : Holding) (a : PlainType) → IsSubholding (modes g) h p → Synthesizes sig g p r a → ⊥)
type_tells sig g h r (passed f) u = ((f, u), (λ none. let p = some-part (modes g) h f.1 (λ q. Synthesizes sig g q r f.0) u.0 in none p.0 f.0 p.1 p.2))
type_tells sig g h r (refused path why) u = u

-- of what is well formed
formation_tells : (o : Outcome (Unit {0})) (P : Type 0) → Decided o P → Tells o P (P → ⊥)
formation_tells (passed x) P d = (d, (λ n. n d))
formation_tells (refused path why) P d = d

module _ (puts : Puts) (are : ArePuts puts) where
  pub objects_are_decided : ObjectsAreDecided
  objects_are_decided sig g h n t w f =
      let agree = checks_agree puts are sig in
      by_outcome ((a : Leftover) × Agrees (modes g) h (Some a) (λ p. HasType sig g p n t)) (Agrees (modes g) h None (λ p. HasType sig g p n t)) (ExplainedAt sig g h n t) (checked puts sig g h n t)
      (parts_tell g h (checked puts sig g h n t) (λ p. HasType sig g p n t) (agree.objects n g h t w f)) (λ path why. refuses_exactly puts are sig agree g h n t path why w f)

  pub neutrals_are_decided : NeutralsAreDecided
  neutrals_are_decided sig g h r w =
      let agree = checks_agree puts are sig in
      by_outcome ((found : PlainType × Leftover) × InferredIs sig g h r found) ((p : Holding) (a : PlainType) → IsSubholding (modes g) h p → Synthesizes sig g p r a → ⊥) (ExplainedInNeutral sig g h r) (inferred puts sig g h r)
      (type_tells sig g h r (inferred puts sig g h r) (agree.neutrals r g h w)) (λ path why. refuses_neutrals_exactly puts are sig agree g h r path why w)

  pub expressions_are_decided : ExpressionsAreDecided
  expressions_are_decided sig g h e s w f =
      let agree = checks_agree puts are sig in
      by_outcome ((a : Leftover) × Agrees (modes g) h (Some a) (λ p. ExpressionHasType sig g p e s)) (Agrees (modes g) h None (λ p. ExpressionHasType sig g p e s)) (ExplainedAt sig g h (monadic e) (monad s)) (checked_expression puts sig g h 0 e s)
      (parts_tell g h (checked_expression puts sig g h 0 e s) (λ p. ExpressionHasType sig g p e s) (agree.expressions e g h 0 s w f)) (λ path why. refuses_exactly puts are sig agree g h (monadic e) (monad s) path why w f)

  pub types_are_decided : TypesAreDecided
  types_are_decided sig g a w =
      let agree = checks_agree puts are sig in
      by_outcome (WellFormedType sig g a) (WellFormedType sig g a → ⊥) (ExplainedInType sig g a) (type_formed puts sig g a)
      (formation_tells (type_formed puts sig g a) (WellFormedType sig g a) ((formation_agrees puts are sig agree w.signature).types a g w.context))
      (λ path why. types_refuse_exactly puts are sig agree w.signature g a path why w.context)

  pub kinds_are_decided : KindsAreDecided
  kinds_are_decided sig g k w =
      let agree = checks_agree puts are sig in
      by_outcome (WellFormedKind sig g k) (WellFormedKind sig g k → ⊥) (ExplainedInKind sig g k) (kind_formed puts sig g 0 k)
      (formation_tells (kind_formed puts sig g 0 k) (WellFormedKind sig g k) ((formation_agrees puts are sig agree w.signature).kinds k g 0 w.context))
      (λ path why. kinds_refuse_exactly puts are sig agree w.signature g k path why w.context)

  pub entries_are_decided : EntriesAreDecided
  entries_are_decided sig e w =
      let agree = checks_agree puts are sig in
      let class = (formation_agrees puts are sig agree w.signature).classes e.class in
      let entry : Decided (class_formed puts sig e.class) (WellFormedEntry sig e) = decided_as (class_formed puts sig e.class) (λ p. (p, w.implicit)) (λ p. p.0) class in
      by_outcome (WellFormedEntry sig e) (WellFormedEntry sig e → ⊥) (ExplainedInClass sig e.class) (class_formed puts sig e.class)
      (formation_tells (class_formed puts sig e.class) (WellFormedEntry sig e) entry)
      (λ path why. classes_refuse_exactly puts are sig agree w.signature e.class path why)
