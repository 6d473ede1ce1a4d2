-- Places in the order of binding: two such lists have no circle.
use Rattle.std.specs.Prelude.{ℕ, Bool, true, false, zero, suc, ◌+◌, ◌≡◌, ◌<◌, ◌≤◌, ◌⊎◌, if◌then◌else◌, List, [], ◌∷◌, length, Option, Some, None, refl}
use Rattle.std.proofs.Common.{ap, sym, ◌∙◌, arith, inl, inr, ⊎_elim}
use Rattle.pattern_laws.specs.Patterns.{Place, local_at, blank, inverse, SameTypes, Ends, ends_here, ends_later, NoCircle, Ordered}
use Rattle.pattern_laws.proofs.Inverse.{inverse_there, local_within}
use Rattle.pattern_laws.proofs.Places.{holds}

shown : (b : Bool) (x v : ℕ) → (if b then None else Some x) ≡ Some v → (b ≡ false) × (x ≡ v)
shown true x v e = absurd (cc)
shown false x v e = (refl, cc)

at_place : {b : Bool} (x : ℕ) → b ≡ false → (if b then None else Some x) ≡ Some x
at_place x e = rw e refl

-- the place of a variable, or that there is none
pub searched : (zs : List Place) (v : ℕ) → ((i : ℕ) × (local_at zs i ≡ Some v)) ⊎ ((i : ℕ) → local_at zs i ≡ Some v → ⊥)
searched zs v = ⊎_elim (λ e. inl (inverse 0 zs v, e)) (λ h. inr (λ i e. h (inverse_there 0 zs i v e))) (holds (local_at zs (inverse 0 zs v)) v)

-- A place that is not blank on one side is not blank on the other.
over_there : (ps zs : List Place) → SameTypes ps zs → (i v : ℕ) → local_at zs i ≡ Some v → (w : ℕ) × (local_at ps i ≡ Some w)
over_there [] [] s i v e = absurd (cc)
over_there (p ∷ ps) (z ∷ zs) s zero v e = (p.2, at_place p.2 (ap blank s.1 ∙ (shown (blank z.1) z.2 v e).0))
over_there (p ∷ ps) (z ∷ zs) s (suc i) v e = over_there ps zs s.2 i v e
over_there [] (z ∷ zs) s i v e = absurd s
over_there (p ∷ ps) [] s i v e = absurd s

one_number : {v w : ℕ} {o : Option ℕ} → o ≡ Some v → o ≡ Some w → v ≡ w
one_number e f = cc

three : (i j : ℕ) → (i < j) ⊎ ((i ≡ j) ⊎ (j < i))
three i j = grind arith

module _ (ps zs : List Place) (same : SameTypes ps zs) (a : Ordered ps) (b : Ordered zs) where
  -- the next place lies further in the same direction
  lower : (j i k v w : ℕ) → local_at ps j ≡ Some v → local_at zs i ≡ Some v → local_at ps i ≡ Some w → local_at zs k ≡ Some w → i < j → k < i
  lower j i k v w e f g h l = ⊎_elim (λ m. m) (λ c. ⊎_elim (λ m. absurd (equal m)) (λ m. absurd (above m)) c) (three k i)
    where
      less : w < v
      less = a i j w v l g e

      equal : k ≡ i → ⊥
      equal m = let n : v ≡ w = one_number f (ap (local_at zs) (sym m) ∙ h) in omega (arith, less)

      above : i < k → ⊥
      above m = let n : v < w = b i k v w m f h in omega (arith, less)

  higher : (j i k v w : ℕ) → local_at ps j ≡ Some v → local_at zs i ≡ Some v → local_at ps i ≡ Some w → local_at zs k ≡ Some w → j < i → i < k
  higher j i k v w e f g h l = ⊎_elim (λ m. absurd (below m)) (λ c. ⊎_elim (λ m. absurd (equal m)) (λ m. m) c) (three k i)
    where
      less : v < w
      less = a j i v w l e g

      equal : k ≡ i → ⊥
      equal m = let n : v ≡ w = one_number f (ap (local_at zs) (sym m) ∙ h) in omega (arith, less)

      below : k < i → ⊥
      below m = let n : w < v = b k i w v m h f in omega (arith, less)

  down : (n j i v : ℕ) → j < n → local_at ps j ≡ Some v → local_at zs i ≡ Some v → i < j → Ends ps zs j
  down zero j i v l e f h = absurd (omega arith)
  down (suc n) j i v l e f h = let (w, g) = over_there ps zs same i v f in
      ends_later e f (⊎_elim (λ c. down n i c.0 w (omega arith) g c.1 (lower j i c.0 v w e f g c.1 h)) (λ c. ends_here g c) (searched zs w))

  raise : (n j i v : ℕ) → length zs ≤ j + n → local_at ps j ≡ Some v → local_at zs i ≡ Some v → j < i → Ends ps zs j
  raise zero j i v l e f h = let k : i < length zs = local_within zs i v f in absurd (omega arith)
  raise (suc n) j i v l e f h = let (w, g) = over_there ps zs same i v f in
      ends_later e f (⊎_elim (λ c. raise n i c.0 w (omega arith) g c.1 (higher j i c.0 v w e f g c.1 h)) (λ c. ends_here g c) (searched zs w))

  pub ordered_no_circle : NoCircle ps zs
  ordered_no_circle j v e = ⊎_elim
      (λ c. ⊎_elim (λ l. inr (down (suc j) j c.0 v (omega arith) e c.1 l)) (λ d. ⊎_elim (λ m. inl (ap (local_at zs) (sym m) ∙ c.1)) (λ l. inr (raise (length zs) j c.0 v (omega arith) e c.1 l)) d) (three c.0 j))
      (λ c. inr (ends_here e c))
      (searched zs v)
