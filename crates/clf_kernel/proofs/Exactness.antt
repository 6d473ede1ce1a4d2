-- From the outcome of a check to what the rules say.
use Rattle.std.proofs.Common.{subst, Result, Ok, Err}
use Rattle.clf_syntax.specs.declared.fault.OrWide.{OrWide}
use Rattle.clf_syntax.specs.declared.fault.OrWide.TheVariants.{Fault, NoMemory, TooFar}
use Rattle.clf_syntax.specs.Tree.{PlainObject, monadic, PlainNeutral, PlainExpression}
use Rattle.clf_syntax.specs.TypeTree.{PlainType, monad, PlainTelescope, PlainKind}
use Rattle.clf_syntax.specs.Simple.{SimplyFormed, SimplyFormedTelescope}
use Rattle.use_contexts.specs.declared.join.Left.{Left}
use Rattle.use_contexts.specs.Context.{Context, modes}
use Rattle.use_contexts.specs.Holding.{Holding}
use Rattle.use_contexts.specs.Rows.{Agrees, Leftover}
use Rattle.clf_sig.specs.Entry.{PlainSignature, PlainEntry}
use Rattle.clf_rules.specs.Typing.{HasType, Synthesizes, ExpressionHasType}
use Rattle.clf_rules.specs.WellFormed.{WellFormedType, WellFormedKind, WellFormedEntry}
use Rattle.typing_laws.specs.SimpleTyping.{simple_of, families_of}
use Rattle.clf_decision.specs.Outcome.{Outcome, answer_of}
use Rattle.clf_decision.specs.Checking.{checked, inferred, checked_expression}
use Rattle.clf_decision.specs.Formation.{class_formed, kind_formed, type_formed}
use Rattle.clf_decision.specs.Hereditary.{hereditary}
use Rattle.clf_decision.specs.Starts.{Starts, FormationStarts, EntryStarts}
use Rattle.clf_decision.proofs.AgreesWith.{AgreesWithType}
use Rattle.clf_decision.proofs.DecidedOutcomes.{Decided, decided_as}
use Rattle.clf_decision.proofs.FirstRefusals.{refuses_exactly, refuses_neutrals_exactly}
use Rattle.clf_decision.proofs.FirstRefusalsOfTypes.{types_refuse_exactly, kinds_refuse_exactly, classes_refuse_exactly}
use Rattle.clf_decision.proofs.Hereditary.{are_puts, checks_agree_with_rules, formation_agrees_with_rules}
use Rattle.clf_kernel.specs.declared.refusal.Refusal.{Refusal}
use Rattle.clf_kernel.specs.declared.refusal.Inferred.{Inferred}
use Rattle.clf_kernel.specs.Answers.{plain_left, plain_inferred, plain_cause}
use Rattle.clf_kernel.specs.Exact.{ChecksObject, InfersNeutral, ChecksExpression, ChecksType, ChecksKind, ChecksEntry}
use Rattle.clf_kernel.specs.Stops.{Answers}

module _ (sig : PlainSignature) (g : Context) (h : Holding) where
  pub checks-object : (n : PlainObject) (t : PlainType) (r : Result Left (OrWide Refusal)) → Starts sig g h → SimplyFormed (families_of sig) (simple_of sig g) t
      → Answers plain_left (checked hereditary sig g h n t) r → ChecksObject sig g h n t r
  checks-object n t (Ok left) w f e = subst (λ (o : Outcome Leftover). Agrees (modes g) h (answer_of o) (λ p. HasType sig g p n t)) e ((checks_agree_with_rules sig).objects n g h t w f)
  checks-object n t (Err (Fault r)) w f e = (
    subst (λ (o : Outcome Leftover). Agrees (modes g) h (answer_of o) (λ p. HasType sig g p n t)) e ((checks_agree_with_rules sig).objects n g h t w f),
    (refuses_exactly hereditary are_puts sig (checks_agree_with_rules sig) g h n t r.path.items (plain_cause r.cause) w f).0 e,
  )
  checks-object n t (Err NoMemory) w f e = tt
  checks-object n t (Err (TooFar v)) w f e = e

  pub checks-expression : (x : PlainExpression) (s : PlainTelescope) (r : Result Left (OrWide Refusal)) → Starts sig g h → SimplyFormedTelescope (families_of sig) (simple_of sig g) s
      → Answers plain_left (checked_expression hereditary sig g h 0 x s) r → ChecksExpression sig g h x s r
  checks-expression x s (Ok left) w f e = subst (λ (o : Outcome Leftover). Agrees (modes g) h (answer_of o) (λ p. ExpressionHasType sig g p x s)) e ((checks_agree_with_rules sig).expressions x g h 0 s w f)
  checks-expression x s (Err (Fault r)) w f e = (
    subst (λ (o : Outcome Leftover). Agrees (modes g) h (answer_of o) (λ p. ExpressionHasType sig g p x s)) e ((checks_agree_with_rules sig).expressions x g h 0 s w f),
    (refuses_exactly hereditary are_puts sig (checks_agree_with_rules sig) g h (monadic x) (monad s) r.path.items (plain_cause r.cause) w f).0 e,
  )
  checks-expression x s (Err NoMemory) w f e = tt
  checks-expression x s (Err (TooFar v)) w f e = e

  pub infers-neutral : (n : PlainNeutral) (r : Result Inferred (OrWide Refusal)) → Starts sig g h
      → Answers plain_inferred (inferred hereditary sig g h n) r → InfersNeutral sig g h n r
  infers-neutral n (Ok found) w e = subst (λ (o : Outcome (PlainType × Leftover)). AgreesWithType g h o (λ p a. Synthesizes sig g p n a)) e ((checks_agree_with_rules sig).neutrals n g h w)
  infers-neutral n (Err (Fault r)) w e = (
    subst (λ (o : Outcome (PlainType × Leftover)). AgreesWithType g h o (λ p a. Synthesizes sig g p n a)) e ((checks_agree_with_rules sig).neutrals n g h w),
    (refuses_neutrals_exactly hereditary are_puts sig (checks_agree_with_rules sig) g h n r.path.items (plain_cause r.cause) w).0 e,
  )
  infers-neutral n (Err NoMemory) w e = tt
  infers-neutral n (Err (TooFar v)) w e = e

pub checks-type : (sig : PlainSignature) (g : Context) (a : PlainType) (r : Result (Unit {0}) (OrWide Refusal)) → FormationStarts sig g
    → Answers (λ x. x) (type_formed hereditary sig g a) r → ChecksType sig g a r
checks-type sig g a (Ok x) w e = subst (λ (o : Outcome (Unit {0})). Decided o (WellFormedType sig g a)) e ((formation_agrees_with_rules sig w.signature).types a g w.context)
checks-type sig g a (Err (Fault r)) w e = (
  subst (λ (o : Outcome (Unit {0})). Decided o (WellFormedType sig g a)) e ((formation_agrees_with_rules sig w.signature).types a g w.context),
  (types_refuse_exactly hereditary are_puts sig (checks_agree_with_rules sig) w.signature g a r.path.items (plain_cause r.cause) w.context).0 e,
)
checks-type sig g a (Err NoMemory) w e = tt
checks-type sig g a (Err (TooFar v)) w e = e

pub checks-kind : (sig : PlainSignature) (g : Context) (k : PlainKind) (r : Result (Unit {0}) (OrWide Refusal)) → FormationStarts sig g
    → Answers (λ x. x) (kind_formed hereditary sig g 0 k) r → ChecksKind sig g k r
checks-kind sig g k (Ok x) w e = subst (λ (o : Outcome (Unit {0})). Decided o (WellFormedKind sig g k)) e ((formation_agrees_with_rules sig w.signature).kinds k g 0 w.context)
checks-kind sig g k (Err (Fault r)) w e = (
  subst (λ (o : Outcome (Unit {0})). Decided o (WellFormedKind sig g k)) e ((formation_agrees_with_rules sig w.signature).kinds k g 0 w.context),
  (kinds_refuse_exactly hereditary are_puts sig (checks_agree_with_rules sig) w.signature g k r.path.items (plain_cause r.cause) w.context).0 e,
)
checks-kind sig g k (Err NoMemory) w e = tt
checks-kind sig g k (Err (TooFar v)) w e = e

-- its class is decided, and the number of implicit arguments is given
entry_decided : (sig : PlainSignature) (e : PlainEntry) → EntryStarts sig e → Decided (class_formed hereditary sig e.class) (WellFormedEntry sig e)
entry_decided sig e w = decided_as (class_formed hereditary sig e.class) (λ p. (p, w.implicit)) (λ p. p.0) ((formation_agrees_with_rules sig w.signature).classes e.class)

pub checks-entry : (sig : PlainSignature) (e : PlainEntry) (r : Result (Unit {0}) (OrWide Refusal)) → EntryStarts sig e
    → Answers (λ x. x) (class_formed hereditary sig e.class) r → ChecksEntry sig e r
checks-entry sig e (Ok x) w a = subst (λ (o : Outcome (Unit {0})). Decided o (WellFormedEntry sig e)) a (entry_decided sig e w)
checks-entry sig e (Err (Fault r)) w a = (
  subst (λ (o : Outcome (Unit {0})). Decided o (WellFormedEntry sig e)) a (entry_decided sig e w),
  (classes_refuse_exactly hereditary are_puts sig (checks_agree_with_rules sig) w.signature e.class r.path.items (plain_cause r.cause)).0 a,
)
checks-entry sig e (Err NoMemory) w a = tt
checks-entry sig e (Err (TooFar v)) w a = a

pub ruleset exact_laws = (checks-object, checks-expression, infers-neutral, checks-type, checks-kind, checks-entry)
