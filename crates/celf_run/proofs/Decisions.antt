-- What can be told of a number of entries.
use Rattle.std.proofs.Common.{ℕ, ◌≡◌, ◌==◌, Bool, true, false, refl, arith, ◌⊎◌, inl, inr}

-- A statement holds or does not.
abbrev pub Decided : Type 0 → Type 0
Decided P = P ⊎ (P → ⊥)

pub decide-number : (n k : ℕ) → Decided (n ≡ k)
decide-number n k = go (n == k) refl
  where
    go : (b : Bool) → (n == k) ≡ b → Decided (n ≡ k)
    go true e = inl (grind arith)
    go false e = inr (λ h. grind arith)
