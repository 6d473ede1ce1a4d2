-- Inner: the comparison of two trees under tables of ids, as functions on plain trees. The code answers what they do, and rebuilds no tree.
-- A table has the ids of the variables in scope by runs, the oldest run first. The variables of one pattern have ids that follow one another.
use Rattle.std.specs.Prelude.{ℕ, Bool, true, false, ◌+◌, ◌-◌, ◌&&◌, nat_eq, nat_lt, if◌then◌else◌, List, [], ◌∷◌, ◌++◌, length, reverse, Option, Some, None, is_some, map, slice_get}
use Rattle.clf_syntax.specs.Tree.{PlainExpression, PlainObject, PlainNeutral, PlainTuple, PlainElimination, arg, first, second, app, atomic, head_alone, done, empty, entry, fst, hole, lam, monadic, pair, snd, step, tuple_of, unit}
use Rattle.clf_syntax.specs.declared.tree.Head.{Head}
use Rattle.clf_syntax.specs.declared.tree.Head.TheVariants.{Const, Meta, Var}
use Rattle.clf_syntax.specs.declared.tree.Mode.{Mode}
use Rattle.clf_syntax.specs.declared.tree.Expr.{Expr, out-Expr}
use Rattle.clf_syntax.specs.Plain.{plain_entry}
use Rattle.trace_equal.specs.declared.tables.Run.{Run}
use Rattle.trace_equal.specs.declared.tables.Tables.{Tables}
use Rattle.trace_equal.specs.declared.tables.Place.{Place}
use Rattle.trace_equal.specs.declared.tables.Place.TheVariants.{Bound, Outside}
use Rattle.trace_equal.specs.Places.{all_places, chosen, each, is_absent}
use Rattle.clf_syntax.specs.Modes.{same_mode, same_modes}
use Rattle.trace_equal.specs.Steps.{result_of}

-- ---- variables
-- what a variable stands for under runs, the newest first
abbrev pub place_in : List Run → ℕ → Place
place_in [] i = Outside i
place_in (r ∷ rs) i = if nat_lt i r.count then Bound (r.first + (r.count - 1 - i)) else place_in rs (i - r.count)

abbrev pub place : List Run → ℕ → Place
place runs i = place_in (reverse runs) i

abbrev pub same_place : Place → Place → Bool
same_place (Bound i) (Bound j) = nat_eq i j
same_place (Bound i) (Outside j) = false
same_place (Outside i) (Bound j) = false
same_place (Outside i) (Outside j) = nat_eq i j

abbrev pub compared_head : Tables → Head → Head → Bool
compared_head s (Const c) (Const d) = nat_eq c d
compared_head s (Var i) (Var j) = same_place (place s.left i) (place s.right j)
compared_head s (Meta c) (Meta d) = nat_eq c d
compared_head s _ _ = false

-- ---- what is entered
-- Tables and runs under other names, by which the contracts of `Tables` itself can speak of them.
abbrev pub Scopes : Type 0
Scopes = Tables

abbrev pub Ids : Type 0
Ids = Run

abbrev pub no_ids : Tables
no_ids = record { left = []; right = []; fresh = 0 }

abbrev pub with_left : Tables → Run → Tables
with_left s r = record { left = s.left ++ r ∷ []; right = s.right; fresh = s.fresh }

abbrev pub with_right : Tables → Run → Tables
with_right s r = record { left = s.left; right = s.right ++ r ∷ []; fresh = s.fresh }

abbrev pub with_fresh : Tables → ℕ → Tables
with_fresh s n = record { left = s.left; right = s.right; fresh = n }

abbrev pub run_of : ℕ → ℕ → Run
run_of d n = record { first = d; count = n }

-- one variable on both sides
abbrev pub with_both : Tables → Tables
with_both s = record { left = s.left ++ run_of s.fresh 1 ∷ []; right = s.right ++ run_of s.fresh 1 ∷ []; fresh = s.fresh + 1 }

-- ---- the right steps
abbrev pub Right : Type 0
Right = Run × (List Mode × PlainNeutral)

abbrev pub steps_of : PlainExpression → List (List Mode × PlainNeutral)
steps_of (step ms r e) = (ms, r) ∷ steps_of e
steps_of (done t) = []

-- each step with the run of the variables of the steps before it, which so many have from the id d on
abbrev pub rights_from : ℕ → ℕ → List (List Mode × PlainNeutral) → List Right
rights_from d n [] = []
rights_from d n (s ∷ ss) = (run_of d n, (s.0, s.1)) ∷ rights_from d (n + length s.0) ss

-- the steps with runs that stand beside them
abbrev pub zipped : List Run → List (List Mode × PlainNeutral) → List Right
zipped [] ss = []
zipped (r ∷ rs) [] = []
zipped (r ∷ rs) (s ∷ ss) = (r, (s.0, s.1)) ∷ zipped rs ss

-- the runs of rights_from
abbrev pub runs_from : ℕ → ℕ → List (List Mode × PlainNeutral) → List Run
runs_from d n [] = []
runs_from d n (s ∷ ss) = run_of d n ∷ runs_from d (n + length s.0) ss

-- how many variables these steps bind, after so many
abbrev pub count_from : ℕ → List (List Mode × PlainNeutral) → ℕ
count_from n [] = n
count_from n (s ∷ ss) = count_from (n + length s.0) ss

-- the run of the variables of the step
abbrev pub own_run : Right → Run
own_run y = run_of (y.0.first + y.0.count) (length y.1.0)

-- The left step may stand for the right one: the modes are the same, and so are the right sides, by the test.
abbrev pub serving : (Tables → PlainNeutral → Bool) → Tables → List Mode → Right → Bool
serving test s p y = same_modes p y.1.0 && test (with_right s y.0) y.1.1

-- the run of the step's variables, where it may
abbrev pub served : (Tables → PlainNeutral → Bool) → Tables → List Mode → Option Right → Option Run
served test s p None = None
served test s p (Some y) = if serving test s p y then Some (own_run y) else None

abbrev pub onward : (Tables → Option (List ℕ)) → Tables → ℕ → Option Run → Option (List ℕ)
onward rest s j None = None
onward rest s j (Some r) = chosen j (rest (with_left s r))

-- the step at place j, and the rest after it
abbrev pub taken : (Tables → PlainNeutral → Bool) → (Tables → Option (List ℕ)) → Tables → List Mode → ℕ → Option Right → Option (List ℕ)
taken test rest s p j o = onward rest s j (served test s p o)

abbrev pub same_count : PlainExpression → PlainExpression → Bool
same_count (step p n e) (step q v f) = same_count e f
same_count (step p n e) (done u) = false
same_count (done t) (step q v f) = false
same_count (done t) (done u) = true

abbrev mutual
  pub compared : Tables → PlainObject → PlainObject → Bool
  compared s (lam m b) (lam k c) = same_mode m k && compared (with_both s) b c
  compared s (pair l r) (pair k q) = compared s l k && compared s r q
  compared s unit unit = true
  compared s (monadic e) (monadic f) = is_some (if same_count e f
      then sought (rights_from s.fresh 0 (steps_of f)) (run_of s.fresh (count_from 0 (steps_of f))) (result_of f) (with_fresh s (s.fresh + count_from 0 (steps_of f))) (all_places (length (steps_of f)) e) [] e
      else None)
  compared s (atomic n) (atomic o) = compared_neutral s n o
  compared s hole hole = true
  compared s _ _ = false

  pub compared_neutral : Tables → PlainNeutral → PlainNeutral → Bool
  compared_neutral s (head_alone h) (head_alone j) = compared_head s h j
  compared_neutral s (app m r o) (app k q u) = same_mode m k && (compared_neutral s r q && compared s o u)
  compared_neutral s (fst r) (fst q) = compared_neutral s r q
  compared_neutral s (snd r) (snd q) = compared_neutral s r q
  compared_neutral s _ _ = false

  pub compared_tuple : Tables → PlainTuple → PlainTuple → Bool
  compared_tuple s empty empty = true
  compared_tuple s (entry m o t) (entry k u w) = same_mode m k && (compared s o u && compared_tuple s t w)
  compared_tuple s _ _ = false

  -- What completes the used places to a matching with the right steps ys and the tuple w, whose variables have the run v:
  -- for each of the left steps the first of its candidates after which there is a completion.
  pub sought : List Right → Run → PlainTuple → Tables → List (List ℕ) → List ℕ → PlainExpression → Option (List ℕ)
  sought ys v w s cs used (done t) = if compared_tuple (with_right s v) t w then Some [] else None
  sought ys v w s [] used (step p n e) = None
  sought ys v w s (c ∷ cs) used (step p n e) = each (λ j. is_absent j used) (λ j. taken (λ x o. compared_neutral x n o) (λ x. sought ys v w x cs (j ∷ used) e) s p j (slice_get ys j)) c

-- the first matching of two expressions
abbrev pub first_under : Tables → PlainExpression → PlainExpression → Option (List ℕ)
first_under s e f = if same_count e f
    then sought (rights_from s.fresh 0 (steps_of f)) (run_of s.fresh (count_from 0 (steps_of f))) (result_of f) (with_fresh s (s.fresh + count_from 0 (steps_of f))) (all_places (length (steps_of f)) e) [] e
    else None

-- ---- along a spine
abbrev pub compared_elimination : Tables → PlainElimination → PlainElimination → Bool
compared_elimination s (arg m o) (arg k u) = same_mode m k && compared s o u
compared_elimination s first first = true
compared_elimination s second second = true
compared_elimination s _ _ = false

abbrev pub compared_spine : Tables → List PlainElimination → List PlainElimination → Bool
compared_spine s [] [] = true
compared_spine s (a ∷ es) (b ∷ fs) = compared_elimination s a b && compared_spine s es fs
compared_spine s _ _ = false

abbrev pub compared_entry : Tables → Mode × PlainObject → Mode × PlainObject → Bool
compared_entry s t w = same_mode t.0 w.0 && compared s t.1 w.1

abbrev pub tuple_at : Expr → PlainTuple
tuple_at e = tuple_of (map plain_entry (out-Expr e).result)

-- ---- steps
abbrev pub step_serves : Tables → List Mode × PlainNeutral → Right → Bool
step_serves s l y = serving (λ x o. compared_neutral x l.1 o) s l.0 y

abbrev pub step_served : Tables → List Mode × PlainNeutral → Option Right → Option Run
step_served s l o = served (λ x n. compared_neutral x l.1 n) s l.0 o

-- tables with these runs on the left, the newest first
abbrev pub with_steps : Tables → List Run → Tables
with_steps s [] = s
with_steps s (r ∷ rs) = with_left (with_steps s rs) r
