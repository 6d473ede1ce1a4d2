-- What tests of modes and of numbers mean where they fail.
use Rattle.std.proofs.Common.{◌≡◌, ℕ, ◌==◌, true, false, refl, subst, arith}
use Rattle.clf_syntax.specs.declared.tree.Mode.{Mode}
use Rattle.clf_syntax.specs.declared.tree.Mode.TheVariants.{Persistent, Affine, Linear}
use Rattle.clf_syntax.specs.Modes.{same_mode}
use Rattle.trace_equal.proofs.FirstMatching.{mode_complete}

pub other-mode : (m k : Mode) → same_mode m k ≡ false → k ≡ m → ⊥
other-mode m k e q = let s = mode_complete m in let t : same_mode m m ≡ false = subst (λ x. same_mode m x ≡ false) q e in cc

pub modes-differ : (m k : Mode) → (k ≡ m → ⊥) → same_mode m k ≡ false
modes-differ Persistent Persistent f = absurd (f refl)
modes-differ Affine Affine f = absurd (f refl)
modes-differ Linear Linear f = absurd (f refl)
modes-differ Persistent Affine f = refl
modes-differ Persistent Linear f = refl
modes-differ Affine Persistent f = refl
modes-differ Affine Linear f = refl
modes-differ Linear Persistent f = refl
modes-differ Linear Affine f = refl

pub other-number : (i v : ℕ) → (i == v) ≡ false → i ≡ v → ⊥
other-number i v e q = grind arith

pub numbers-differ : (i v : ℕ) → (i ≡ v → ⊥) → (i == v) ≡ false
numbers-differ i v f = grind arith

pub itself-number : (i : ℕ) → (i == i) ≡ true
itself-number i = grind arith
