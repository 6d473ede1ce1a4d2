-- Inner: the search for the first matching by places, as functions on plain trees. No tree is rebuilt.
use Rattle.std.specs.Prelude.{ℕ, ◌≡◌, ◌<◌, ◌⊎◌, Bool, zero, suc, ◌+◌, ◌-◌, ◌&&◌, not, nat_eq, nat_lt, if◌then◌else◌, true, List, [], ◌∷◌, length, map, Option, Some, None, slice_get}
use Rattle.clf_syntax.specs.Renaming.{Renumbering, ren_neutral, ren_tuple, up}
use Rattle.clf_syntax.specs.Tree.{PlainExpression, PlainNeutral, PlainTuple, done, step}
use Rattle.clf_syntax.specs.declared.tree.Mode.{Mode}
use Rattle.trace_equal.specs.Bijection.{IsMatching}
use Rattle.clf_syntax.specs.Modes.{same_modes}
use Rattle.trace_equal.specs.Search.{is_joined_neutral, is_joined_tuple}
use Rattle.trace_equal.specs.Steps.{WideStep, below, size, wide_step}

-- The n newest variables get the numbers from a on, and the others keep theirs.
abbrev pub entered : ℕ → ℕ → Renumbering → Renumbering
entered n a r i = if nat_lt i n then i + a else r (i - n)

-- a step on the right: from which number its variables stand, their modes, and its right side over the variables of all steps
pub data Right : Type 0 where
  right : ℕ → List Mode → PlainNeutral → Right

abbrev pub rights : PlainExpression → List Right
rights (step ms r e) = right (size e) ms (ren_neutral (up (size e + length ms)) r) ∷ rights e
rights (done t) = []

abbrev pub wide : Right → WideStep
wide (right a ms v) = wide_step (map (up a) (below (length ms))) ms v

-- whether a number is none of these
abbrev pub is_absent : ℕ → List ℕ → Bool
is_absent j [] = true
is_absent j (i ∷ is) = not (nat_eq j i) && is_absent j is

abbrev pub chosen : ℕ → Option (List ℕ) → Option (List ℕ)
chosen j None = None
chosen j (Some m) = Some (j ∷ m)

-- the first answer of these
abbrev pub or_else : Option (List ℕ) → Option (List ℕ) → Option (List ℕ)
or_else (Some m) o = Some m
or_else None o = o

-- whether a right step may stand for the left one
abbrev pub serves : Renumbering → List Mode → PlainNeutral → Right → Bool
serves r p n (right a q v) = same_modes p q && is_joined_neutral (ren_neutral r n) v

-- the step at place j, and the rest after it
abbrev pub tried : Renumbering → List Mode → PlainNeutral → (Renumbering → Option (List ℕ)) → ℕ → Option Right → Option (List ℕ)
tried r p n rest j None = None
tried r p n rest j (Some (right a q v)) = if serves r p n (right a q v) then chosen j (rest (entered (length p) a r)) else None

-- the candidates in turn, but for those that are used
abbrev pub each : (ℕ → Bool) → (ℕ → Option (List ℕ)) → List ℕ → Option (List ℕ)
each free attempt [] = None
each free attempt (j ∷ js) = or_else (if free j then attempt j else None) (each free attempt js)

-- What completes the used places to a matching: for each of the left steps the first of its candidates after which there is a completion.
abbrev pub search : List Right → PlainTuple → List (List ℕ) → Renumbering → List ℕ → PlainExpression → Option (List ℕ)
search ys u cs r used (done t) = if nat_eq (length used) (length ys) && is_joined_tuple (ren_tuple r t) u then Some [] else None
search ys u [] r used (step p n e) = None
search ys u (c ∷ cs) r used (step p n e) = each (λ j. is_absent j used) (λ j. tried r p n (λ s. search ys u cs s (j ∷ used) e) j (slice_get ys j)) c

-- the numbers from one on, of so many steps
abbrev pub from_on : ℕ → ℕ → List ℕ
from_on i zero = []
from_on i (suc n) = i ∷ from_on (suc i) n

-- For each of the left steps all places are candidates.
abbrev pub all_places : ℕ → PlainExpression → List (List ℕ)
all_places n (step p r e) = from_on 0 n ∷ all_places n e
all_places n (done t) = []

-- ---- candidates
abbrev pub Among : ℕ → List ℕ → Type 0
Among j [] = ⊥
Among j (i ∷ is) = (j ≡ i) ⊎ Among j is

-- each place is one of the candidates of its step
abbrev pub Listed : List ℕ → List (List ℕ) → Type 0
Listed [] cs = Unit {0}
Listed (j ∷ m) [] = ⊥
Listed (j ∷ m) (c ∷ cs) = Among j c × Listed m cs

abbrev pub Below : ℕ → List ℕ → Type 0
Below i [] = Unit {0}
Below i (j ∷ js) = (i < j) × Below i js

abbrev pub Ascending : List ℕ → Type 0
Ascending [] = Unit {0}
Ascending (i ∷ is) = Below i is × Ascending is

abbrev pub AllAscending : List (List ℕ) → Type 0
AllAscending [] = Unit {0}
AllAscending (c ∷ cs) = Ascending c × AllAscending cs

-- Each place of a matching is one of the candidates of its step.
abbrev pub Covers : List (List ℕ) → PlainExpression → PlainExpression → Type 0
Covers cs e f = AllAscending cs × ((m : List ℕ) → IsMatching m e f → Listed m cs)
