-- Inner: the search for the first matching, step by step. The code goes forward while a candidate serves, and back where none is left.
use Rattle.std.specs.Prelude.{ℕ, ◌≡◌, ◌<◌, ◌≤◌, ◌+◌, Bool, true, if◌then◌else◌, List, [], ◌∷◌, length, map, Option, Some, None, slice_get}
use Rattle.std.proofs.Common.{drop}
use Rattle.clf_syntax.specs.Tree.{PlainNeutral, PlainTuple, done, steps_on, tuple_of}
use Rattle.clf_syntax.specs.Plain.{plain_step, plain_entry}
use Rattle.clf_syntax.specs.declared.tree.Expr.{Expr, out-Expr}
use Rattle.clf_syntax.specs.declared.tree.Mode.{Mode}
use Rattle.trace_equal.specs.declared.tables.Run.{Run}
use Rattle.trace_equal.specs.declared.tables.Tables.{Tables}
use Rattle.trace_equal.specs.declared.choice.Taken.{Taken}
use Rattle.trace_equal.specs.declared.backtracking.Turn.{Turn}
use Rattle.trace_equal.specs.declared.backtracking.Turn.TheVariants.{Complete, Take, Back}
use Rattle.trace_equal.specs.Choosing.{is_free}
use Rattle.trace_equal.specs.Comparing.{Right, compared_neutral, compared_tuple, sought, step_served, taken, with_left, with_right, zipped}
use Rattle.trace_equal.specs.Places.{chosen, each, is_absent, or_else}

-- what is looked for: the left steps and tuple, the right steps, the run of all their variables and their tuple, and for each left step its candidates
pub record Problem : Type 0 where
  pub lefts : List (List Mode × PlainNeutral)
  pub result : PlainTuple
  pub rights : List Right
  pub all : Run
  pub wanted : PlainTuple
  pub candidates : List (List ℕ)

abbrev pub problem : Expr → Expr → List Run → Run → List (List ℕ) → Problem
problem left right before all candidates = record {
  lefts = map plain_step (out-Expr left).steps;
  result = tuple_of (map plain_entry (out-Expr left).result);
  rights = zipped before (map plain_step (out-Expr right).steps);
  all = all;
  wanted = tuple_of (map plain_entry (out-Expr right).result);
  candidates = candidates;
}

-- the answer for the left steps from k on
abbrev pub sought_at : Problem → ℕ → Tables → List ℕ → Option (List ℕ)
sought_at p k s used = sought p.rights p.all p.wanted s (drop k p.candidates) used (steps_on (drop k p.lefts) (done p.result))

-- the answer from these candidates of a left step
abbrev pub tries : (ℕ → Tables → Option (List ℕ)) → List Right → Tables → List ℕ → List Mode × PlainNeutral → List ℕ → Option (List ℕ)
tries rest ys s used l c = each (λ j. is_absent j used) (λ j. taken (λ x o. compared_neutral x l.1 o) (rest j) s l.0 j (slice_get ys j)) c

abbrev pub tries_at : Problem → ℕ → Tables → List ℕ → ℕ → Option (List Mode × PlainNeutral) → Option (List ℕ) → Option (List ℕ)
tries_at p k s used a (Some l) (Some c) = tries (λ j x. sought_at p (k + 1) x (j ∷ used)) p.rights s used l (drop a c)
tries_at p k s used a (Some l) None = None
tries_at p k s used a None c = if compared_tuple (with_right s p.all) p.result p.wanted then Some [] else None

-- the answer for the left steps from k on, where for step k the candidates from a on are left
abbrev pub open_at : Problem → ℕ → Tables → List ℕ → ℕ → Option (List ℕ)
open_at p k s used a = tries_at p k s used a (slice_get p.lefts k) (slice_get p.candidates k)

-- the run of the right step at place j, where it is not marked and may stand for the left step
abbrev pub served_at : Tables → List Bool → List Mode × PlainNeutral → List Right → ℕ → Option Run
served_at s marks l ys j = if is_free marks j then step_served s l (slice_get ys j) else None

-- the marks are those of the used places
abbrev pub Marks : List ℕ → List Bool → Type 0
Marks used marks = (j : ℕ) → is_free marks j ≡ is_absent j used

-- the first candidate from a on that serves
pub record Serves (ys : List Right) (s : Tables) (used : List ℕ) (l : List Mode × PlainNeutral) (c : List ℕ) (a : ℕ) (t : Taken) : Type 0 where
  pub later : a < t.next
  pub within : t.next ≤ length c
  pub free : is_absent t.place used ≡ true
  pub placed : t.place < length ys
  pub answer : (rest : ℕ → Tables → Option (List ℕ)) → tries rest ys s used l (drop a c) ≡ or_else (chosen t.place (rest t.place (with_left s t.run))) (tries rest ys s used l (drop t.next c))

abbrev pub IsNext : List Right → Tables → List ℕ → List Mode × PlainNeutral → List ℕ → ℕ → Option Taken → Type 0
IsNext ys s used l c a None = (rest : ℕ → Tables → Option (List ℕ)) → tries rest ys s used l (drop a c) ≡ None
IsNext ys s used l c a (Some t) = Serves ys s used l c a t

-- A candidate of left step k is taken.
pub record Takes (p : Problem) (k : ℕ) (s : Tables) (used : List ℕ) (a : ℕ) (t : Taken) : Type 0 where
  pub later : a < t.next
  pub within : (c : List ℕ) × (slice_get p.candidates k ≡ Some c) × (t.next ≤ length c)
  pub free : is_absent t.place used ≡ true
  pub placed : t.place < length p.rights
  pub answer : open_at p k s used a ≡ or_else (chosen t.place (open_at p (k + 1) (with_left s t.run) (t.place ∷ used) 0)) (open_at p k s used t.next)

abbrev pub Advances : Problem → ℕ → Tables → List ℕ → ℕ → Turn → Type 0
Advances p k s used a Complete = open_at p k s used a ≡ Some []
Advances p k s used a Back = open_at p k s used a ≡ None
Advances p k s used a (Take t) = Takes p k s used a t
