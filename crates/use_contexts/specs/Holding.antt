-- A holding: which entries of a context may still be used. It is as long as the context, the newest entry first,
-- and marks each entry as held or not; persistent entries are always held.
use Rattle.std.specs.Prelude.{ℕ, zero, suc, ◌≡◌, Bool, true, false, not, ◌&&◌, ◌||◌, List, [], ◌∷◌, map, Some}
use Rattle.std.specs.List.{slice_get}
use Rattle.clf_syntax.specs.declared.tree.Mode.{Mode}
use Rattle.clf_syntax.specs.declared.tree.Mode.TheVariants.{Persistent, Affine, Linear}

abbrev pub Holding : Type 0
Holding = List Bool

abbrev pub is_persistent : Mode → Bool
is_persistent Persistent = true
is_persistent Affine = false
is_persistent Linear = false

abbrev pub is_linear : Mode → Bool
is_linear Persistent = false
is_linear Affine = false
is_linear Linear = true

-- A holding fits a list of modes: it is as long, and holds the persistent entries.
abbrev pub WellMarked : List Mode → Holding → Type 0
WellMarked [] [] = Unit {0}
WellMarked (m ∷ ms) (h ∷ hs) = (is_persistent m ≡ true → h ≡ true) × WellMarked ms hs
WellMarked [] (h ∷ hs) = ⊥
WellMarked (m ∷ ms) [] = ⊥

-- the holding of the persistent entries alone
abbrev pub persistent_alone : List Mode → Holding
persistent_alone ms = map is_persistent ms

-- A held entry that is not persistent is held by exactly one side, and no other is. A persistent one is held by both.
abbrev pub SplitEntry : Mode → Bool → Bool → Bool → Type 0
SplitEntry Persistent h a b = (h ≡ true) × (a ≡ true) × (b ≡ true)
SplitEntry Affine h a b = (h ≡ a || b) × (a && b ≡ false)
SplitEntry Linear h a b = (h ≡ a || b) × (a && b ≡ false)

-- Split ms h a b: the holding h is split into the parts a and b.
abbrev pub Split : List Mode → Holding → Holding → Holding → Type 0
Split [] [] [] [] = Unit {0}
Split (m ∷ ms) (h ∷ hs) (a ∷ ys) (b ∷ bs) = SplitEntry m h a b × Split ms hs ys bs
Split _ _ _ _ = ⊥

-- No linear entry is held.
abbrev pub is_weak : List Mode → Holding → Bool
is_weak (m ∷ ms) (h ∷ hs) = not (is_linear m && h) && is_weak ms hs
is_weak [] hs = true
is_weak (m ∷ ms) [] = true

-- No linear and no affine entry is held.
abbrev pub is_unrestricted : List Mode → Holding → Bool
is_unrestricted (m ∷ ms) (h ∷ hs) = not (not (is_persistent m) && h) && is_unrestricted ms hs
is_unrestricted [] hs = true
is_unrestricted (m ∷ ms) [] = true

-- What an argument of a mode may use: a persistent one nothing linear or affine, an affine one nothing linear, a linear one anything.
abbrev pub may_use : Mode → List Mode → Holding → Bool
may_use Persistent ms h = is_unrestricted ms h
may_use Affine ms h = is_weak ms h
may_use Linear ms h = true

-- the holding without its linear entries
abbrev pub without_linear : List Mode → Holding → Holding
without_linear (m ∷ ms) (h ∷ hs) = (not (is_linear m) && h) ∷ without_linear ms hs
without_linear [] hs = []
without_linear (m ∷ ms) [] = []

-- The largest part of a holding that an argument of a mode may use: a persistent one the persistent entries alone, an affine one no
-- linear entry, a linear one all.
abbrev pub allowed : Mode → List Mode → Holding → Holding
allowed Persistent ms l = persistent_alone ms
allowed Affine ms l = without_linear ms l
allowed Linear ms l = l

-- the holding with variable i no longer held
abbrev pub without : ℕ → Holding → Holding
without i [] = []
without zero (h ∷ hs) = false ∷ hs
without (suc i) (h ∷ hs) = h ∷ without i hs

-- A variable may be used where it is held, and nothing linear is held beside it.
abbrev pub Uses : List Mode → Holding → ℕ → Type 0
Uses ms h i = (slice_get h i ≡ Some true) × (is_weak ms (without i h) ≡ true)

-- a holding with the entries of newer variables, all of them held
abbrev pub all_held : List Mode → Holding → Holding
all_held [] h = h
all_held (m ∷ ms) h = all_held ms (true ∷ h)
