-- Rows with newer variables that are held.
use Rattle.std.proofs.Common.{◌≡◌, ℕ, zero, suc, ◌+◌, true, Bool, List, [], ◌∷◌, ◌++◌, length, reverse, refl, ap, arith}
use Rattle.std.proofs.lemmas.List.{reverse-append}
use Rattle.clf_syntax.specs.declared.tree.Mode.{Mode}
use Rattle.use_contexts.specs.Holding.{Holding, all_held}

-- one more
pub held_more : (ms : List Mode) (h : Holding) (n : ℕ) → length ms ≡ suc n → (ks : List Mode) × (length ks ≡ n) × (all_held ms h ≡ true ∷ all_held ks h)
held_more [] h n e = absurd (omega arith)
held_more (m ∷ []) h n e = ([], omega arith, refl)
held_more (m ∷ k ∷ ms) h zero e = absurd (omega arith)
held_more (m ∷ k ∷ ms) h (suc n) e = let r = held_more (k ∷ ms) (true ∷ h) n (omega arith) in (m ∷ r.0, ap suc r.1, r.2)

pub held_pushed : (hs : List Bool) → reverse (hs ++ true ∷ []) ≡ true ∷ reverse hs
held_pushed hs = reverse-append hs (true ∷ [])

pub length-all_held : (ms : List Mode) (h : Holding) → length (all_held ms h) ≡ length ms + length h
length-all_held [] h = omega arith
length-all_held (m ∷ ms) h = let e = length-all_held ms (true ∷ h) in omega (arith, e)
