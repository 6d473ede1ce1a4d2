-- The first place at which two lists of objects differ.
use Rattle.std.specs.Prelude.{ℕ, zero, suc, List, [], ◌∷◌, Option, Some, None}
use Rattle.clf_syntax.specs.Tree.{PlainObject}
use Rattle.trace_equal.specs.Exchange.{Joined, JoinedEach}

-- At the place one list has an object and the other has none, or the objects are not joined. At each earlier place they are.
abbrev pub DiffersAt : ℕ → List PlainObject → List PlainObject → Type 0
DiffersAt i [] [] = ⊥
DiffersAt zero [] (u ∷ us) = Unit {0}
DiffersAt (suc i) [] (u ∷ us) = ⊥
DiffersAt zero (o ∷ os) [] = Unit {0}
DiffersAt (suc i) (o ∷ os) [] = ⊥
DiffersAt zero (o ∷ os) (u ∷ us) = Joined o u → ⊥
DiffersAt (suc i) (o ∷ os) (u ∷ us) = Joined o u × DiffersAt i os us

-- that place, or none where the lists are joined place by place
abbrev pub IsFirstDifference : List PlainObject → List PlainObject → Option ℕ → Type 0
IsFirstDifference os us None = JoinedEach os us
IsFirstDifference os us (Some i) = DiffersAt i os us
