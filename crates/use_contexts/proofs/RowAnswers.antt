-- How the answers of checks go together, as the proofs of the laws have them.
use Rattle.std.specs.Prelude.{ℕ, Bool, ◌&&◌, ◌||◌, if◌then◌else◌, List, [], ◌∷◌, Option, Some, None}
use Rattle.clf_syntax.specs.declared.tree.Mode.{Mode}
use Rattle.use_contexts.specs.Holding.{Holding}
use Rattle.use_contexts.specs.Rows.{Answer, Leftover, newest, older, newest_difference, left_in_both, is_unused, outside, slack_outside}

-- the answer of two parts in turn, from the first's slack and the second's answer
abbrev pub in_turn : Answer → Bool → Answer
in_turn None s = None
in_turn (Some b) s = Some (b.0, s || b.1)

-- the answer of a pair, from those of its parts
abbrev pub paired_unless : Option ℕ → Leftover → Answer
paired_unless None a = Some a
paired_unless (Some i) a = None

abbrev pub paired : List Mode → Answer → Answer → Answer
paired ms None b = None
paired ms (Some a) None = None
paired ms (Some a) (Some b) = paired_unless (newest_difference ms a.0 a.1 b.0 b.1) (left_in_both a.0 b.0, a.1 && b.1)

-- the answer outside the scope of the newest entry
abbrev pub closed : Mode → Answer → Answer
closed m None = None
closed m (Some a) = if is_unused m (newest a.0) a.1 then None else Some (older a.0, a.1)

-- the answer outside the scope of several entries, the last one the newest
abbrev pub closed_all : List Mode → Answer → Answer
closed_all [] r = r
closed_all (n ∷ ns) r = closed n (closed_all ns r)

-- the modes with those of newer entries, the last one the newest
abbrev pub entered : List Mode → List Mode → List Mode
entered [] ms = ms
entered (n ∷ ns) ms = entered ns (n ∷ ms)

-- the answer outside an argument, from the row at its begin and its own answer
abbrev pub argued : Mode → List Mode → Holding → Answer → Answer
argued m ms l None = None
argued m ms l (Some a) = Some (outside m ms l a.0, slack_outside m a.1)
