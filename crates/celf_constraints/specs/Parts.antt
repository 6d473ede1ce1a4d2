-- Inner: the metavariables that one elimination of a spine mentions.
use Rattle.std.specs.Prelude.{ℕ, Bool, false}
use Rattle.clf_syntax.specs.Tree.{PlainElimination, arg, first, second}
use Rattle.store_laws.specs.Mentions.{mentions}

abbrev pub mentions_elimination : ℕ → PlainElimination → Bool
mentions_elimination k (arg m n) = mentions k n
mentions_elimination k first = false
mentions_elimination k second = false
