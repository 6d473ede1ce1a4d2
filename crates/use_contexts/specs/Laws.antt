-- Laws of rows, which the contracts of the functions in src/laws.rt state.
use Rattle.std.specs.Prelude.{ℕ, ◌≡◌, ◌↔◌, Bool, true, false, ◌&&◌, ◌||◌, List, ◌∷◌, length, slice_get, None, Some}
use Rattle.clf_syntax.specs.declared.tree.Mode.{Mode}
use Rattle.use_contexts.specs.Holding.{Holding, WellMarked, Uses, is_weak, is_unrestricted, persistent_alone, without_linear}
use Rattle.use_contexts.specs.Rows.{IsSubholding, Stands, Shared, left_in_both, newest_difference, taken, is_unused, newest, older, linear_of}

-- Two checks in turn: the second's row, with slack where either has it, stands for exactly the parts that are split between
-- one that the first stands for and one that the second stands for.
abbrev pub InTurn : Type 0
InTurn = (ms : List Mode) (h l r : Holding) (s t : Bool) (p : Holding) → IsSubholding ms h l → IsSubholding ms l r → length p ≡ length ms
    → Stands ms h r (s || t) p ↔ Shared ms (Stands ms h l s) (Stands ms l r t) p

-- Two checks of a pair that do not differ: the entries that both left, with slack where both have it, stand for exactly the parts that both stand for.
abbrev pub InPairs : Type 0
InPairs = (ms : List Mode) (h l r : Holding) (s t : Bool) (p : Holding) → IsSubholding ms h l → IsSubholding ms h r → newest_difference ms l s r t ≡ None
    → Stands ms h (left_in_both l r) (s && t) p ↔ (Stands ms h l s p × Stands ms h r t p)

-- Where they differ, they stand for no part in common.
abbrev pub Apart : Type 0
Apart = (ms : List Mode) (h l r : Holding) (s t : Bool) (p : Holding) → (newest_difference ms l s r t ≡ None → ⊥) → Stands ms h l s p → Stands ms h r t p → ⊥

-- A use of a held variable leaves a row that stands for exactly the parts that use it and hold nothing linear beside it.
abbrev pub OfUses : Type 0
OfUses = (ms : List Mode) (h : Holding) (i : ℕ) (p : Holding) → WellMarked ms h → slice_get h i ≡ Some true → IsSubholding ms h p → Stands ms h (taken ms i h) false p ↔ Uses ms p i

-- What uses nothing leaves all: that stands for exactly the parts without linear entries; with slack, for all parts.
abbrev pub OfNothing : Type 0
OfNothing = (ms : List Mode) (h p : Holding) → WellMarked ms h → IsSubholding ms h p → (Stands ms h h false p ↔ (is_weak ms p ≡ true)) × Stands ms h h true p

-- At the end of the scope of an entry that is not unused, the rest of the row stands for exactly the parts that, with the entry held, it stood for.
abbrev pub OfScopes : Type 0
OfScopes = (m : Mode) (ms : List Mode) (h l : Holding) (s : Bool) (p : Holding) → IsSubholding (m ∷ ms) (true ∷ h) l → IsSubholding ms h p
    → (is_unused m (newest l) s ≡ false → Stands ms h (older l) s p ↔ Stands (m ∷ ms) (true ∷ h) l s (true ∷ p))
    × (is_unused m (newest l) s ≡ true → Stands (m ∷ ms) (true ∷ h) l s (true ∷ p) → ⊥)

-- An affine argument starts without the linear entries of l. Where it leaves r, its parts are those without linear entries that
-- the row with the linear entries of l and the others of r stands for, without slack.
abbrev pub OfAffineArguments : Type 0
OfAffineArguments = (ms : List Mode) (l r : Holding) (t : Bool) (p : Holding) → IsSubholding ms l l → IsSubholding ms (without_linear ms l) r → length p ≡ length ms
    → Stands ms l (linear_of ms l r) false p ↔ ((is_weak ms p ≡ true) × Stands ms (without_linear ms l) r t p)

-- A persistent argument has one part alone, the persistent entries, and every row that it leaves stands for that.
abbrev pub OfPersistentArguments : Type 0
OfPersistentArguments = (ms : List Mode) (r : Holding) (t : Bool) (k : Holding) → IsSubholding ms (persistent_alone ms) r → WellMarked ms k → is_unrestricted ms k ≡ true
    → (k ≡ persistent_alone ms) × Stands ms (persistent_alone ms) r t k
