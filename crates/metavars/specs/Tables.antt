-- Inner: the tables of a store, and the list of additions that they tell.
use Rattle.std.specs.Prelude.{ℕ, ◌+◌, ◌<◌, ◌≡◌, List, [], ◌∷◌, ◌++◌, length, take, Option, Some, None, slice_get, slice_set}
use Rattle.clf_syntax.specs.declared.tree.Simple.{Simple}
use Rattle.clf_syntax.specs.declared.tree.Obj.{Obj}
use Rattle.metavars.specs.declared.tables.Addition.{Addition}
use Rattle.metavars.specs.declared.tables.Addition.TheVariants.{New, Solved}
use Rattle.metavars.specs.declared.tables.Tables.{Tables}
use Rattle.metavars.specs.Stored.{Added, added_new, added_solved}

-- the additions with the simple types of the new metavariables
abbrev pub told : List Addition → List Simple → List Added
told [] ts = []
told (New ∷ xs) [] = []
told (New ∷ xs) (t ∷ ts) = added_new t ∷ told xs ts
told (Solved m o ∷ xs) ts = added_solved m o ∷ told xs ts

abbrev pub listed : Tables → List Added
listed t = told t.added t.metas

abbrev pub new_ones : List Addition → ℕ
new_ones [] = 0
new_ones (New ∷ xs) = new_ones xs + 1
new_ones (Solved m o ∷ xs) = new_ones xs

-- There is a row for each new metavariable, and the places of the solutions are those of the additions that solve; what is solved was there before.
pub record AreTables (t : Tables) : Type 0 where
  pub typed : length t.metas ≡ new_ones t.added
  pub placed : length t.solved_at ≡ length t.metas
  pub there : (p m : ℕ) (o : Obj) → slice_get t.added p ≡ Some (Solved m o) → slice_get t.solved_at m ≡ Some (Some p)
  pub before : (p m : ℕ) (o : Obj) → slice_get t.added p ≡ Some (Solved m o) → m < new_ones (take p t.added)
  pub solving : (m p : ℕ) → slice_get t.solved_at m ≡ Some (Some p) → (o : Obj) × (slice_get t.added p ≡ Some (Solved m o))

abbrev pub with_row : Tables → Simple → Tables
with_row t ty = record t { metas = t.metas ++ ty ∷ []; solved_at = t.solved_at ++ None ∷ [] }

abbrev pub with_new : Tables → Simple → Tables
with_new t ty = record { added = t.added ++ New ∷ []; metas = t.metas ++ ty ∷ []; solved_at = t.solved_at ++ None ∷ [] }

abbrev pub with_solved : Tables → ℕ → Obj → Tables
with_solved t m o = record { added = t.added ++ Solved m o ∷ []; metas = t.metas; solved_at = slice_set t.solved_at m (Some (length t.added)) }

abbrev pub inner_place : Option (Option ℕ) → Option ℕ
inner_place None = None
inner_place (Some p) = p

abbrev pub place_in : List (Option ℕ) → ℕ → Option ℕ
place_in places m = inner_place (slice_get places m)

abbrev pub object_of : Option Addition → Option Obj
object_of None = None
object_of (Some New) = None
object_of (Some (Solved m o)) = Some o

abbrev pub object_in : List Addition → ℕ → Option Obj
object_in added p = object_of (slice_get added p)
