-- Inner: stores that tests begin with.
use Rattle.std.specs.Prelude.{◌≡◌, List, [], ◌∷◌, map}
use Rattle.clf_syntax.specs.TypeTree.{SimpleType}
use Rattle.pattern_laws.specs.Patterns.{HasFinalResult}
use Rattle.store_laws.specs.Additions.{Addition, new}

-- Metavariables alone were added.
abbrev pub HasNoSolution : List Addition → Type 0
HasNoSolution zs = (ts : List SimpleType) × (zs ≡ map new ts)

-- Each result in the end is a family or a monad.
abbrev pub AllFinal : List SimpleType → Type 0
AllFinal [] = Unit {0}
AllFinal (t ∷ ts) = HasFinalResult t × AllFinal ts
