-- Inner: tables of ids, by which the variables of both sides are numbered while two trees are compared, so that no tree is renamed.
-- A table has the id of each variable in scope, the newest first. So many ids, d, are given so far; each id is below d.
use Rattle.std.specs.Prelude.{ℕ, ◌+◌, ◌-◌, ◌<◌, List, [], ◌∷◌, ◌++◌, length, map, Option, Some, None, slice_get}
use Rattle.clf_syntax.specs.Renaming.{Renumbering, ren_neutral, up}
use Rattle.clf_syntax.specs.Tree.{PlainNeutral}
use Rattle.clf_syntax.specs.declared.tree.Mode.{Mode}
use Rattle.trace_equal.specs.Places.{Right, right}
use Rattle.trace_equal.specs.Steps.{below}

-- A variable with an id is renumbered by it, the newest id to 0. One outside the table comes after all ids.
abbrev pub by_id : ℕ → List ℕ → ℕ → Option ℕ → ℕ
by_id d t i (Some k) = d - 1 - k
by_id d t i None = i - length t + d

abbrev pub by : ℕ → List ℕ → Renumbering
by d t i = by_id d t i (slice_get t i)

abbrev pub EachUnder : ℕ → List ℕ → Type 0
EachUnder d [] = Unit {0}
EachUnder d (i ∷ is) = (i < d) × EachUnder d is

-- the next n ids, the newest first
abbrev pub ids : ℕ → ℕ → List ℕ
ids d n = map (up d) (below n)

-- ---- the steps of the right side, each under its own table
abbrev pub total : List (List Mode × PlainNeutral) → ℕ
total [] = 0
total (s ∷ ss) = total ss + length s.0

abbrev pub rights_by : ℕ → ℕ → List ℕ → List (List Mode × PlainNeutral) → List Right
rights_by e d u [] = []
rights_by e d u (s ∷ ss) = right (e - d - length s.0) s.0 (ren_neutral (by e u) s.1) ∷ rights_by e (d + length s.0) (ids d (length s.0) ++ u) ss

-- the table at the end of the steps
abbrev pub table_after : ℕ → List ℕ → List (List Mode × PlainNeutral) → List ℕ
table_after d u [] = u
table_after d u (s ∷ ss) = table_after (d + length s.0) (ids d (length s.0) ++ u) ss
