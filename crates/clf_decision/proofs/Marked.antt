-- The holdings that checks start from mark their contexts.
use Rattle.std.proofs.Common.{◌≡◌, ℕ, zero, suc, not, Bool, true, false, ◌&&◌, List, [], ◌∷◌, None, Some, slice_get}
use Rattle.clf_syntax.specs.declared.tree.Mode.{Mode}
use Rattle.clf_syntax.specs.declared.tree.Mode.TheVariants.{Persistent, Affine, Linear}
use Rattle.clf_syntax.specs.TypeTree.{PlainType}
use Rattle.use_contexts.specs.Context.{Context, modes}
use Rattle.use_contexts.specs.Holding.{Holding, WellMarked, is_persistent, is_linear, is_weak, persistent_alone, allowed, without_linear}
use Rattle.use_contexts.specs.Rows.{Agrees, Leftover, outside}
use Rattle.use_contexts.proofs.UseLaws.{IsSubholding-self, WellMarked-part, idle-agrees}
use Rattle.use_contexts.proofs.ArgumentLaws.{argument-agrees}

-- ---- what a mode allows of a row
pub alone-marked : (ms : List Mode) → WellMarked ms (persistent_alone ms)
alone-marked [] = tt
alone-marked (m ∷ ms) = ((λ e. e), alone-marked ms)

weak-marked : (ms : List Mode) (l : Holding) → WellMarked ms l → WellMarked ms (without_linear ms l)
weak-marked [] [] w = tt
weak-marked [] (x ∷ l) w = absurd w
weak-marked (m ∷ ms) [] w = absurd w
weak-marked (m ∷ ms) (x ∷ l) w = (kept m x w.0, weak-marked ms l w.1)
  where
    kept : (m : Mode) (x : Bool) → (is_persistent m ≡ true → x ≡ true) → is_persistent m ≡ true → (not (is_linear m) && x) ≡ true
    kept Persistent x e q = e q
    kept Affine x e q = cc
    kept Linear x e q = cc

pub allowed-marked : (m : Mode) (ms : List Mode) (l : Holding) → WellMarked ms l → WellMarked ms (allowed m ms l)
allowed-marked Persistent ms l w = alone-marked ms
allowed-marked Affine ms l w = weak-marked ms l w
allowed-marked Linear ms l w = w

-- ---- the row outside an entry
-- The row outside what was checked in a row that the mode allows marks the context as well.
pub outside-marked : (m : Mode) (g : Context) (h : Holding) → WellMarked (modes g) h → (y : Leftover) (P : Holding → Type 0) → Agrees (modes g) (allowed m (modes g) h) (Some y) P
    → WellMarked (modes g) (outside m (modes g) h y.0)
outside-marked m g h w y P a =
    let self = IsSubholding-self (modes g) h w in
    let idle = idle-agrees (modes g) h self in
    let both = argument-agrees m (modes g) h h false (Some y) (λ p. is_weak (modes g) p ≡ true) P self idle a in
    WellMarked-part (modes g) h (outside m (modes g) h y.0) both.0

-- ---- variables
-- a variable of the context has a mark
pub marked-there : (g : Context) (h : Holding) (i : ℕ) → WellMarked (modes g) h → (e : Mode × PlainType) → slice_get g i ≡ Some e → slice_get h i ≡ None → ⊥
marked-there [] h i w e q x = cc
marked-there (d ∷ g) [] i w e q x = absurd w
marked-there (d ∷ g) (b ∷ h) zero w e q x = cc
marked-there (d ∷ g) (b ∷ h) (suc i) w e q x = marked-there g h i w.1 e q x
