-- Rows: what the check of a part leaves of a holding, with slack where the part may take more linear entries.
-- Where a row has no linear entry, slack has nothing to take: with and without it the row stands for the same parts.
use Rattle.std.specs.Prelude.{ℕ, zero, suc, ◌≡◌, Bool, true, false, not, ◌&&◌, ◌||◌, if◌then◌else◌, List, [], ◌∷◌, length, Option, Some, None}
use Rattle.std.specs.Option.{option_map}
use Rattle.clf_syntax.specs.declared.tree.Mode.{Mode}
use Rattle.clf_syntax.specs.declared.tree.Mode.TheVariants.{Persistent, Affine, Linear}
use Rattle.use_contexts.specs.Holding.{Holding, is_persistent, is_linear, Split}

-- the holding after variable i is used: it is held no longer, unless it is persistent
abbrev pub taken : List Mode → ℕ → Holding → Holding
taken (m ∷ ms) zero (h ∷ hs) = (is_persistent m && h) ∷ hs
taken (m ∷ ms) (suc i) (h ∷ hs) = h ∷ taken ms i hs
taken [] i hs = hs
taken (m ∷ ms) i [] = []

-- an entry of a pair is left where both parts left it
abbrev pub left_in_both : Holding → Holding → Holding
left_in_both (a ∷ as') (b ∷ bs) = (a && b) ∷ left_in_both as' bs
left_in_both [] bs = []
left_in_both (a ∷ as') [] = []

-- The parts of a pair differ at a linear entry that one used and the other left, unless the one that left it has slack.
-- The marks say whether each part left the entry.
abbrev pub differs : Mode → Bool → Bool → Bool → Bool → Bool
differs m a s b t = is_linear m && ((a && not b && not s) || (b && not a && not t))

-- the newest entry at which the parts of a pair differ
abbrev pub newest_difference : List Mode → Holding → Bool → Holding → Bool → Option ℕ
newest_difference (m ∷ ms) (a ∷ as') s (b ∷ bs) t = if differs m a s b t then Some 0 else option_map suc (newest_difference ms as' s bs t)
newest_difference [] as' s bs t = None
newest_difference (m ∷ ms) [] s bs t = None
newest_difference (m ∷ ms) (a ∷ as') s [] t = None

-- ---- which parts of a holding a row stands for
abbrev pub implies : Bool → Bool → Bool
implies true b = b
implies false b = true

-- An entry of a part p is held only where h holds it; a persistent one is held by both.
abbrev pub within : Mode → Bool → Bool → Bool
within Persistent h p = h && p
within Affine h p = implies p h
within Linear h p = implies p h

-- An entry that is held (h) and not left (l) is used, and the part p has to hold it. A linear entry that is left may be held by p
-- only with slack (s). An affine one that is left may be held or not.
abbrev pub stands : Mode → Bool → Bool → Bool → Bool → Bool
stands Persistent h l s p = h && l && p
stands Affine h l s p = implies l h && implies p h && implies (h && not l) p
stands Linear h l s p = implies l h && implies p h && implies (h && not l) p && implies (l && p) s

-- the newest mark, and the marks of the older entries
abbrev pub newest : Holding → Bool
newest [] = false
newest (b ∷ bs) = b

abbrev pub older : Holding → Holding
older [] = []
older (b ∷ bs) = bs

abbrev pub EachWithin : List Mode → Holding → Holding → Type 0
EachWithin [] h p = Unit {0}
EachWithin (m ∷ ms) h p = (within m (newest h) (newest p) ≡ true) × EachWithin ms (older h) (older p)

abbrev pub EachStands : List Mode → Holding → Holding → Bool → Holding → Type 0
EachStands [] h l s p = Unit {0}
EachStands (m ∷ ms) h l s p = (stands m (newest h) (newest l) s (newest p) ≡ true) × EachStands ms (older h) (older l) s (older p)

-- p is a part of the holding h: it has the same entries, and holds none that h does not.
abbrev pub IsSubholding : List Mode → Holding → Holding → Type 0
IsSubholding ms h p = (length p ≡ length ms) × EachWithin ms h p

-- Stands ms h l s p: p is a part of the holding h that the row l, which is left of h, and the slack s stand for.
abbrev pub Stands : List Mode → Holding → Holding → Bool → Holding → Type 0
Stands ms h l s p = (length p ≡ length ms) × EachStands ms h l s p

-- what a check leaves: the row that is left, and its slack
abbrev pub Leftover : Type 0
Leftover = Holding × Bool

-- an answer of a check: nothing, or what it leaves
abbrev pub Answer : Type 0
Answer = Option Leftover

-- An answer agrees with a property of the parts of h: without an answer no part has it, and a row stands for exactly the parts that have it.
abbrev pub Agrees : List Mode → Holding → Answer → (Holding → Type 0) → Type 0
Agrees ms h None P = (p : Holding) → IsSubholding ms h p → P p → ⊥
Agrees ms h (Some a) P = IsSubholding ms h a.0 × ((p : Holding) → IsSubholding ms h p → P p → Stands ms h a.0 a.1 p) × ((p : Holding) → IsSubholding ms h p → Stands ms h a.0 a.1 p → P p)

-- The holding is split between a part with the first property and one with the second.
abbrev pub Shared : List Mode → (Holding → Type 0) → (Holding → Type 0) → Holding → Type 0
Shared ms P Q p = (g k : Holding) × Split ms p g k × P g × Q k

-- ---- the end of a scope
-- a linear entry is left at the end of its scope, without slack
abbrev pub is_unused : Mode → Bool → Bool → Bool
is_unused m l s = is_linear m && l && not s

-- ---- arguments
-- the linear entries of the first row, and the others of the second
abbrev pub linear_of : List Mode → Holding → Holding → Holding
linear_of (m ∷ ms) (a ∷ as') (b ∷ bs) = (if is_linear m then a else b) ∷ linear_of ms as' bs
linear_of [] as' bs = []
linear_of (m ∷ ms) [] bs = []
linear_of (m ∷ ms) (a ∷ as') [] = []

-- the row outside an argument that started from what is allowed of l and left r
abbrev pub outside : Mode → List Mode → Holding → Holding → Holding
outside Persistent ms l r = l
outside Affine ms l r = linear_of ms l r
outside Linear ms l r = r

-- Only a linear argument's slack counts outside.
abbrev pub slack_outside : Mode → Bool → Bool
slack_outside m t = is_linear m && t
