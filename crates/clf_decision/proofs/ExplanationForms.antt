-- What it means that a refusal of a check is explained: of objects, neutrals, expressions and tuples.
use Rattle.std.specs.Prelude.{ℕ, List}
use Rattle.clf_syntax.specs.Tree.{PlainObject, PlainNeutral, PlainExpression, PlainTuple}
use Rattle.clf_syntax.specs.TypeTree.{PlainType, PlainTelescope}
use Rattle.use_contexts.specs.Context.{Context, modes}
use Rattle.use_contexts.specs.Holding.{Holding}
use Rattle.use_contexts.specs.Rows.{Leftover}
use Rattle.clf_sig.specs.Entry.{PlainSignature}
use Rattle.clf_rules.specs.Typing.{Synthesizes}
use Rattle.clf_rules.specs.Refusal.{Cause}
use Rattle.clf_rules.specs.Explained.{MaySynthesize, CheckedPart, ReachesInExpression, ReachesInTuple, Refuses, ExplainedAt, ExplainedInNeutral}
use Rattle.clf_rules.proofs.UsedParts.{some-part}
use Rattle.clf_decision.specs.Outcome.{Outcome, passed, refused}
use Rattle.clf_decision.proofs.AgreesWith.{AgreesWithType}

abbrev pub ExplainedInExpression : PlainSignature → Context → Holding → PlainExpression → PlainTelescope → ℕ → List ℕ → Cause → Type 0
ExplainedInExpression sig g h e s place path why = (k : Context) × (l : Holding) × (x : CheckedPart) × ReachesInExpression sig g h e s place path k l x × Refuses sig k l x why

abbrev pub ExplainedInTuple : PlainSignature → Context → Holding → PlainTuple → PlainTelescope → ℕ → ℕ → List ℕ → Cause → Type 0
ExplainedInTuple sig g h t s steps before path why = (k : Context) × (l : Holding) × (x : CheckedPart) × ReachesInTuple sig g h t s steps before path k l x × Refuses sig k l x why

-- A refusal has a part at its path that is refused for its cause.
abbrev pub Explained : PlainSignature → Context → Holding → PlainObject → PlainType → Outcome Leftover → Type 0
Explained sig g h n t (passed a) = Unit {0}
Explained sig g h n t (refused path why) = ExplainedAt sig g h n t path why

abbrev pub NeutralExplained : PlainSignature → Context → Holding → PlainNeutral → Outcome (PlainType × Leftover) → Type 0
NeutralExplained sig g h r (passed a) = Unit {0}
NeutralExplained sig g h r (refused path why) = ExplainedInNeutral sig g h r path why

abbrev pub ExpressionExplained : PlainSignature → Context → Holding → PlainExpression → PlainTelescope → ℕ → Outcome Leftover → Type 0
ExpressionExplained sig g h e s place (passed a) = Unit {0}
ExpressionExplained sig g h e s place (refused path why) = ExplainedInExpression sig g h e s place path why

abbrev pub TupleExplained : PlainSignature → Context → Holding → PlainTuple → PlainTelescope → ℕ → ℕ → Outcome Leftover → Type 0
TupleExplained sig g h t s steps before (passed a) = Unit {0}
TupleExplained sig g h t s steps before (refused path why) = ExplainedInTuple sig g h t s steps before path why

-- the type that was found, under some part
pub synthesized : (sig : PlainSignature) (g : Context) (h : Holding) (r : PlainNeutral) (f : PlainType × Leftover) → AgreesWithType g h (passed f) (λ p a. Synthesizes sig g p r a) → MaySynthesize sig g h r f.0
synthesized sig g h r f u = some-part (modes g) h f.1 (λ p. Synthesizes sig g p r f.0) u.0
