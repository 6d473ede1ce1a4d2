-- Inner: the definitions on objects, for one elimination of a spine.
use Rattle.std.specs.Prelude.{ℕ, Bool, false}
use Rattle.clf_syntax.specs.Tree.{PlainElimination, arg, first, second}
use Rattle.clf_syntax.specs.Occurs.{occurs}

-- whether a variable occurs in an elimination
abbrev pub occurs_elimination : ℕ → PlainElimination → Bool
occurs_elimination v (arg m n) = occurs v n
occurs_elimination v first = false
occurs_elimination v second = false
