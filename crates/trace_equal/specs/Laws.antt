-- Laws of exchange, as statements; the functions of the crate's `laws` state them.
use Rattle.std.specs.Prelude.{ℕ, ◌+◌, ◌≡◌, ◌<◌, ◌↔◌, Bool, true, false, ◌&&◌, List, [], length}
use Rattle.clf_syntax.specs.declared.tree.Mode.{Mode}
use Rattle.clf_syntax.specs.Tree.{PlainObject, lam, pair, unit, monadic, atomic, hole, PlainNeutral, head_alone, app, fst, snd, PlainExpression, step, done, PlainTuple, empty, entry, steps_on}
use Rattle.clf_syntax.specs.Renaming.{Renumbering, ren_expression, ren_neutral, ren_tuple, up}
use Rattle.clf_syntax.specs.Occurs.{occurs_neutral}
use Rattle.trace_equal.specs.Exchange.{Joined, JoinedNeutral, JoinedExpression, JoinedTuple}
use Rattle.trace_equal.specs.Matching.{Matches, MatchesNeutral, MatchesExpression, MatchesTuple}
use Rattle.trace_equal.specs.Bijection.{IsMatching, IsFirstMatching}
use Rattle.trace_equal.specs.Ids.{EachUnder, by, rights_by, table_after, total}
use Rattle.trace_equal.specs.Outside.{SameOutside, SameOutsideNeutral}
use Rattle.trace_equal.specs.Places.{Covers, all_places, search}
use Rattle.trace_equal.specs.Steps.{wide_steps}
use Rattle.trace_equal.specs.Search.{first, is_joined}

-- Trees are joined exactly where they match.
abbrev pub JoinedMatches : Type 0
JoinedMatches = ((o u : PlainObject) → Joined o u ↔ Matches o u)
    × ((n r : PlainNeutral) → JoinedNeutral n r ↔ MatchesNeutral n r)
    × ((e f : PlainExpression) → JoinedExpression e f ↔ MatchesExpression e f)
    × ((t u : PlainTuple) → JoinedTuple t u ↔ MatchesTuple t u)

-- A right side mentions none of the n newest variables exactly where it is some neutral, renumbered past them.
abbrev pub IndependenceInWords : Type 0
IndependenceInWords = (n : ℕ) (w : PlainNeutral) → ((i : ℕ) → i < n → occurs_neutral i w ≡ false) ↔ ((v : PlainNeutral) × (w ≡ ren_neutral (up n) v))

-- whether a tree has no steps
abbrev mutual
  pub without_steps : PlainObject → Bool
  without_steps (lam m b) = without_steps b
  without_steps (pair l r) = without_steps l && without_steps r
  without_steps unit = true
  without_steps (monadic e) = expression_without_steps e
  without_steps (atomic n) = neutral_without_steps n
  without_steps hole = true

  pub neutral_without_steps : PlainNeutral → Bool
  neutral_without_steps (head_alone h) = true
  neutral_without_steps (app m r n) = neutral_without_steps r && without_steps n
  neutral_without_steps (fst r) = neutral_without_steps r
  neutral_without_steps (snd r) = neutral_without_steps r

  pub expression_without_steps : PlainExpression → Bool
  expression_without_steps (step ms r e) = false
  expression_without_steps (done t) = tuple_without_steps t

  pub tuple_without_steps : PlainTuple → Bool
  tuple_without_steps empty = true
  tuple_without_steps (entry m n t) = without_steps n && tuple_without_steps t

-- A tree without steps is joined with itself alone.
abbrev pub JoinedWithoutSteps : Type 0
JoinedWithoutSteps = ((o u : PlainObject) → without_steps o ≡ true → Joined o u ↔ (o ≡ u))
    × ((n r : PlainNeutral) → neutral_without_steps n ≡ true → JoinedNeutral n r ↔ (n ≡ r))

-- Joined is an equivalence.
abbrev pub JoinedIsEquivalence : Type 0
JoinedIsEquivalence = ((o : PlainObject) → Joined o o) × ((o u : PlainObject) → Joined o u → Joined u o) × ((o u v : PlainObject) → Joined o u → Joined u v → Joined o v)

-- Expressions are joined exactly where they have a matching.
abbrev pub JoinedHasMatching : Type 0
JoinedHasMatching = (e f : PlainExpression) → JoinedExpression e f ↔ ((m : List ℕ) × IsMatching m e f)

-- The search answers the first matching, or none where there is none.
abbrev pub FirstIsFound : Type 0
FirstIsFound = (e f : PlainExpression) → IsFirstMatching e f (first e f)

-- The test `is_joined` tells whether two objects are joined.
abbrev pub IsJoinedDecides : Type 0
IsJoinedDecides = (o u : PlainObject) → (is_joined o u ≡ true) ↔ Joined o u

-- The search by places finds the first matching of two expressions under tables that number their variables, from any lists of
-- candidates that have each place of a matching: so no tree need be rebuilt, and fewer candidates will do.
abbrev pub FirstIsFoundUnderTables : Type 0
FirstIsFoundUnderTables = (d : ℕ) (t u : List ℕ) (l : PlainExpression) (ss : List (List Mode × PlainNeutral)) (w : PlainTuple) (cs : List (List ℕ)) → EachUnder d t → EachUnder d u
    → Covers cs (ren_expression (by d t) l) (ren_expression (by d u) (steps_on ss (done w)))
    → search (rights_by (d + total ss) d u ss) (ren_tuple (by (d + total ss) (table_after d u ss)) w) cs (by (d + total ss) t) [] l
    ≡ first (ren_expression (by d t) l) (ren_expression (by d u) (steps_on ss (done w)))

-- All places in order are such candidates.
abbrev pub AllPlacesCover : Type 0
AllPlacesCover = (p : Renumbering) (e f : PlainExpression) → Covers (all_places (length (wide_steps f)) e) (ren_expression p e) f

-- Trees are joined exactly where they are the same outside of monadic objects, and monadic objects at the same place are joined.
abbrev pub JoinedIsSameOutside : Type 0
JoinedIsSameOutside = ((o u : PlainObject) → Joined o u ↔ SameOutside o u) × ((n r : PlainNeutral) → JoinedNeutral n r ↔ SameOutsideNeutral n r)
