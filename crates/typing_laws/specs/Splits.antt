-- How a holding is split.
use Rattle.std.specs.Prelude.{◌≡◌, List}
use Rattle.clf_syntax.specs.declared.tree.Mode.{Mode}
use Rattle.use_contexts.specs.Holding.{Holding, Split, WellMarked, persistent_alone}

-- The two sides of a split change places.
abbrev pub SplitCommutes : Type 0
SplitCommutes = (ms : List Mode) (h a b : Holding) → Split ms h a b → Split ms h b a

-- What is split first into two and then the first side again, may be split the other way round: the same three sides come of it.
abbrev pub SplitAssociates : Type 0
SplitAssociates = (ms : List Mode) (h k a b c : Holding) → Split ms h k c → Split ms k a b → (l : Holding) × Split ms h a l × Split ms l b c

-- The persistent entries alone are the side that takes nothing: beside them is the whole holding, and no other.
abbrev pub SplitHasNeutral : Type 0
SplitHasNeutral = (ms : List Mode) (h a : Holding) → (WellMarked ms h → Split ms h h (persistent_alone ms)) × (Split ms h a (persistent_alone ms) → h ≡ a)
