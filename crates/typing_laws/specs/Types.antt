-- A neutral has one type.
use Rattle.std.specs.Prelude.{◌≡◌}
use Rattle.clf_syntax.specs.Tree.{PlainNeutral}
use Rattle.clf_syntax.specs.TypeTree.{PlainType}
use Rattle.use_contexts.specs.Context.{Context}
use Rattle.use_contexts.specs.Holding.{Holding}
use Rattle.clf_sig.specs.Entry.{PlainSignature}
use Rattle.clf_rules.specs.Typing.{Synthesizes}

-- A neutral has at most one type, whatever is held.
abbrev pub TypeIsOne : Type 0
TypeIsOne = (sig : PlainSignature) (g : Context) (h k : Holding) (r : PlainNeutral) (a b : PlainType) → Synthesizes sig g h r a → Synthesizes sig g k r b → a ≡ b
