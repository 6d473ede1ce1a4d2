-- The weight of a store, which falls with each step: the unsolved metavariables, each with its arguments.
use Rattle.std.specs.Prelude.{ℕ, zero, suc, ◌+◌, Option, Some, None}
use Rattle.clf_syntax.specs.Tree.{PlainObject}
use Rattle.clf_syntax.specs.TypeTree.{SimpleType}
use Rattle.subst_laws.specs.Environments.{Instantiation}
use Rattle.pattern_laws.specs.Instantiations.{Types}
use Rattle.pattern_laws.specs.Patterns.{functions}

-- of one metavariable, by its type and its solution
abbrev pub weight_of : Option SimpleType → Option PlainObject → ℕ
weight_of None o = 0
weight_of (Some a) None = suc (functions a)
weight_of (Some a) (Some o) = 0

-- of the metavariables below n
abbrev pub weight : Types → Instantiation → ℕ → ℕ
weight metas given zero = 0
weight metas given (suc n) = weight_of (metas n) (given n) + weight metas given n
