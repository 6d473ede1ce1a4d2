-- Inner: the indices of a family in order, as their check goes through them.
use Rattle.std.specs.Prelude.{ℕ, [], ◌∷◌}
use Rattle.clf_syntax.specs.Tree.{PlainObject}
use Rattle.clf_syntax.specs.TypeTree.{PlainKind}
use Rattle.use_contexts.specs.Context.{Context, modes}
use Rattle.use_contexts.specs.Holding.{persistent_alone}
use Rattle.clf_sig.specs.Entry.{PlainSignature}
use Rattle.clf_decision.specs.Outcome.{Outcome, passed, at_part, and_then}
use Rattle.clf_decision.specs.Checking.{Puts, checked}

-- what is left of a kind after one index, which stands at this place
abbrev pub index_behind : Puts → PlainSignature → Context → ℕ → PlainObject → PlainKind → Outcome PlainKind
index_behind puts sig g place n [] = passed []
index_behind puts sig g place n (a ∷ k) = and_then (at_part place (checked puts sig g (persistent_alone (modes g)) n a)) (λ x. passed (puts.into_kind n a k))
