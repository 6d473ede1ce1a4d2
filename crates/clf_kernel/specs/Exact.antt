-- What the answers of the kernel's calls say, in words of the rules.
--
-- A leftover is determined by the parts that it stands for, but for slack where its row has no linear entry: there slack has nothing to
-- take, and a call may answer it or not.
use Rattle.std.specs.Prelude.{◌≡◌, List, Result, Ok, Err, Some, None}
use Rattle.clf_syntax.specs.declared.fault.OrWide.{OrWide}
use Rattle.clf_syntax.specs.declared.fault.OrWide.TheVariants.{Fault, NoMemory, TooFar}
use Rattle.clf_syntax.specs.declared.tree.Mode.{Mode}
use Rattle.clf_syntax.specs.Tree.{PlainObject, monadic, PlainNeutral, PlainExpression}
use Rattle.clf_syntax.specs.TypeTree.{PlainType, monad, PlainTelescope, PlainKind}
use Rattle.clf_syntax.specs.Wide.{IsWide}
use Rattle.use_contexts.specs.declared.join.Left.{Left}
use Rattle.use_contexts.specs.Context.{Context, modes}
use Rattle.use_contexts.specs.Holding.{Holding}
use Rattle.use_contexts.specs.Rows.{IsSubholding, Agrees}
use Rattle.clf_sig.specs.Entry.{PlainSignature, PlainEntry}
use Rattle.clf_kernel.specs.declared.refusal.Refusal.{Refusal}
use Rattle.clf_kernel.specs.declared.refusal.Inferred.{Inferred}
use Rattle.clf_rules.specs.Typing.{HasType, Synthesizes, ExpressionHasType}
use Rattle.clf_decision.specs.Outcome.{passed, refused}
use Rattle.clf_decision.specs.Checking.{pattern_left}
use Rattle.clf_decision.specs.Laws.{InferredIs}
use Rattle.clf_rules.specs.WellFormed.{WellFormedType, WellFormedKind, WellFormedEntry}
use Rattle.clf_rules.specs.Explained.{ExplainedAt, ExplainedInNeutral, ExplainedInType, ExplainedInKind, ExplainedInClass}
use Rattle.clf_kernel.specs.Answers.{plain_left, plain_inferred, plain_cause}

-- What is left stands for exactly the parts of the holding under which the object has the type. A refusal comes exactly where there is no
-- such part, and its cause is that of the part at its path.
abbrev pub ChecksObject : PlainSignature → Context → Holding → PlainObject → PlainType → Result Left (OrWide Refusal) → Type 0
ChecksObject sig g h n t (Ok left) = Agrees (modes g) h (Some (plain_left left)) (λ p. HasType sig g p n t)
ChecksObject sig g h n t (Err (Fault r)) = Agrees (modes g) h None (λ p. HasType sig g p n t) × ExplainedAt sig g h n t r.path.items (plain_cause r.cause)
ChecksObject sig g h n t (Err NoMemory) = Unit {0}
ChecksObject sig g h n t (Err (TooFar w)) = IsWide w

-- A refusal comes exactly where no part of the holding gives the neutral a type.
abbrev pub InfersNeutral : PlainSignature → Context → Holding → PlainNeutral → Result Inferred (OrWide Refusal) → Type 0
InfersNeutral sig g h n (Ok found) = InferredIs sig g h n (plain_inferred found)
InfersNeutral sig g h n (Err (Fault r)) = ((p : Holding) (a : PlainType) → IsSubholding (modes g) h p → Synthesizes sig g p n a → ⊥)
    × ExplainedInNeutral sig g h n r.path.items (plain_cause r.cause)
InfersNeutral sig g h n (Err NoMemory) = Unit {0}
InfersNeutral sig g h n (Err (TooFar w)) = IsWide w

-- An entry passes where it is well formed. A refusal comes exactly where it is not, and its cause is that of the part at its path.
abbrev pub ChecksEntry : PlainSignature → PlainEntry → Result (Unit {0}) (OrWide Refusal) → Type 0
ChecksEntry sig e (Ok x) = WellFormedEntry sig e
ChecksEntry sig e (Err (Fault r)) = (WellFormedEntry sig e → ⊥) × ExplainedInClass sig e.class r.path.items (plain_cause r.cause)
ChecksEntry sig e (Err NoMemory) = Unit {0}
ChecksEntry sig e (Err (TooFar w)) = IsWide w

-- A type is accepted exactly where it is well formed. A refusal's cause is that of the part at its path.
abbrev pub ChecksType : PlainSignature → Context → PlainType → Result (Unit {0}) (OrWide Refusal) → Type 0
ChecksType sig g a (Ok x) = WellFormedType sig g a
ChecksType sig g a (Err (Fault r)) = (WellFormedType sig g a → ⊥) × ExplainedInType sig g a r.path.items (plain_cause r.cause)
ChecksType sig g a (Err NoMemory) = Unit {0}
ChecksType sig g a (Err (TooFar w)) = IsWide w

-- So it is with a kind.
abbrev pub ChecksKind : PlainSignature → Context → PlainKind → Result (Unit {0}) (OrWide Refusal) → Type 0
ChecksKind sig g k (Ok x) = WellFormedKind sig g k
ChecksKind sig g k (Err (Fault r)) = (WellFormedKind sig g k → ⊥) × ExplainedInKind sig g k r.path.items (plain_cause r.cause)
ChecksKind sig g k (Err NoMemory) = Unit {0}
ChecksKind sig g k (Err (TooFar w)) = IsWide w

-- And with an expression: what is left stands for exactly the parts of the holding under which its result has the telescope.
abbrev pub ChecksExpression : PlainSignature → Context → Holding → PlainExpression → PlainTelescope → Result Left (OrWide Refusal) → Type 0
ChecksExpression sig g h e s (Ok left) = Agrees (modes g) h (Some (plain_left left)) (λ p. ExpressionHasType sig g p e s)
ChecksExpression sig g h e s (Err (Fault r)) = Agrees (modes g) h None (λ p. ExpressionHasType sig g p e s) × ExplainedAt sig g h (monadic e) (monad s) r.path.items (plain_cause r.cause)
ChecksExpression sig g h e s (Err NoMemory) = Unit {0}
ChecksExpression sig g h e s (Err (TooFar w)) = IsWide w

-- A pattern passes where it has as many modes as the telescope has entries, and the same. A refusal is that of the pattern itself, by its
-- width or by its first mode that is another one.
abbrev pub ChecksPattern : List Mode → PlainTelescope → Result (Unit {0}) (OrWide Refusal) → Type 0
ChecksPattern ms s (Ok x) = pattern_left ms s ≡ passed tt
ChecksPattern ms s (Err (Fault r)) = pattern_left ms s ≡ refused r.path.items (plain_cause r.cause)
ChecksPattern ms s (Err NoMemory) = Unit {0}
ChecksPattern ms s (Err (TooFar w)) = IsWide w
