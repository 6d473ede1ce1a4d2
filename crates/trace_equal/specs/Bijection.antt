-- A matching of two expressions: a bijection of their steps with equal modes under which, with the variables renamed along it,
-- the right sides and the tuples are joined. It is given by its list: for each step on the left the place of its step on the right.
use Rattle.std.specs.Prelude.{ℕ, zero, suc, ◌+◌, ◌≡◌, ◌≢◌, ◌<◌, ◌⊎◌, List, [], ◌∷◌, length, map, Some, None}
use Rattle.std.proofs.Common.{Option}
use Rattle.clf_syntax.specs.Renaming.{Renumbering, ren_tuple}
use Rattle.clf_syntax.specs.Tree.{PlainExpression}
use Rattle.trace_equal.specs.Exchange.{JoinedNeutral, JoinedTuple}
use Rattle.trace_equal.specs.Steps.{WideStep, ren_wide_step, result_of, size, wide_step, wide_steps}

-- the same variables and modes, and joined right sides
abbrev pub Agree : WideStep → WideStep → Type 0
Agree (wide_step us ms r) (wide_step vs ns v) = (us ≡ vs) × (ms ≡ ns) × JoinedNeutral r v

-- the step at place i agrees
abbrev pub AgreeAt : ℕ → WideStep → List WideStep → Type 0
AgreeAt i x [] = ⊥
AgreeAt zero x (y ∷ ys) = Agree x y
AgreeAt (suc i) x (y ∷ ys) = AgreeAt i x ys

-- each step agrees with that at its place
abbrev pub Paired : List ℕ → List WideStep → List WideStep → Type 0
Paired [] [] ys = Unit {0}
Paired [] (x ∷ xs) ys = ⊥
Paired (i ∷ m) [] ys = ⊥
Paired (i ∷ m) (x ∷ xs) ys = AgreeAt i x ys × Paired m xs ys

-- i is not in the list
abbrev pub Absent : ℕ → List ℕ → Type 0
Absent i [] = Unit {0}
Absent i (j ∷ m) = (i ≢ j) × Absent i m

-- no number is in the list twice
abbrev pub Distinct : List ℕ → Type 0
Distinct [] = Unit {0}
Distinct (i ∷ m) = Absent i m × Distinct m

-- The list m gives for each step of e its step in f, each step of f once. The renaming r takes the variables of each step to those of its step,
-- and leaves the variables outside.
abbrev pub IsMatching : List ℕ → PlainExpression → PlainExpression → Type 0
IsMatching m e f = (r : Renumbering) × ((i : ℕ) → r (i + size e) ≡ i + size f) × (length (wide_steps e) ≡ length (wide_steps f)) × Distinct m
    × Paired m (map (ren_wide_step r) (wide_steps e)) (wide_steps f) × JoinedTuple (ren_tuple r (result_of e)) (result_of f)

-- the order of lists by their numbers
abbrev pub IsAtMost : List ℕ → List ℕ → Type 0
IsAtMost [] l = Unit {0}
IsAtMost (i ∷ m) [] = ⊥
IsAtMost (i ∷ m) (j ∷ l) = (i < j) ⊎ ((i ≡ j) × IsAtMost m l)

-- the first matching in the order of its numbers, or none where there is none
abbrev pub IsFirstMatching : PlainExpression → PlainExpression → Option (List ℕ) → Type 0
IsFirstMatching e f None = (m : List ℕ) → IsMatching m e f → ⊥
IsFirstMatching e f (Some m) = IsMatching m e f × ((l : List ℕ) → IsMatching l e f → IsAtMost m l)
