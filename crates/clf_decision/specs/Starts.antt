-- What a check presupposes: a well-formed signature, a simply formed context, which is weaker than a well-formed one, and a holding that
-- marks it.
use Rattle.std.specs.Prelude.{◌≤◌}
use Rattle.clf_syntax.specs.Simple.{SimplyFormedContext}
use Rattle.use_contexts.specs.Context.{Context, modes}
use Rattle.use_contexts.specs.Holding.{Holding, WellMarked}
use Rattle.clf_sig.specs.Entry.{PlainSignature, PlainEntry}
use Rattle.clf_rules.specs.WellFormed.{WellFormedSignature, may_be_implicit}
use Rattle.typing_laws.specs.SimpleTyping.{constants_of, families_of}

-- A check in the context starts from the holding: the signature is well formed, the context simply formed, and the holding marks it.
pub record Starts (sig : PlainSignature) (g : Context) (h : Holding) : Type 0 where
  pub signature : WellFormedSignature sig
  pub context : SimplyFormedContext (families_of sig) (constants_of sig) g
  pub marked : WellMarked (modes g) h

-- A check of formation starts from a well-formed signature and a simply formed context.
pub record FormationStarts (sig : PlainSignature) (g : Context) : Type 0 where
  pub signature : WellFormedSignature sig
  pub context : SimplyFormedContext (families_of sig) (constants_of sig) g

-- The check of an entry starts from a well-formed signature, and the entry has no more implicit arguments than it can have.
pub record EntryStarts (sig : PlainSignature) (e : PlainEntry) : Type 0 where
  pub signature : WellFormedSignature sig
  pub implicit : e.implicit ≤ may_be_implicit e.class
