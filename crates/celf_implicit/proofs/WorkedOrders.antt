-- The orders that are worked out by hand.
use Rattle.std.specs.Prelude.{ℕ, zero, suc, ◌<◌, [], ◌∷◌, Contains, AllPairs, ◌≢◌, refl}
use Rattle.std.proofs.Common.{arith}
use Rattle.celf_implicit.specs.Appearance.{AppearsBefore, IsByAppearance}
use Rattle.celf_implicit.specs.Worked.{signature, sum_of_successor, conclusion_first}

pub sum_order : IsByAppearance signature sum_of_successor 3 (0 ∷ 1 ∷ 2 ∷ [])
sum_order = record { numbers = below; all = each; once = differ; by_bytes = rise }
  where
    below : (i : ℕ) → Contains (0 ∷ 1 ∷ 2 ∷ []) i → i < 3
    below i (zero, l, e) = omega (arith, e)
    below i (suc zero, l, e) = omega (arith, e)
    below i (suc (suc zero), l, e) = omega (arith, e)
    below i (suc (suc (suc k)), l, e) = absurd (omega (arith, l))

    each : (i : ℕ) → i < 3 → Contains (0 ∷ 1 ∷ 2 ∷ []) i
    each zero l = (0, omega arith, refl)
    each (suc zero) l = (1, omega arith, refl)
    each (suc (suc zero)) l = (2, omega arith, refl)
    each (suc (suc (suc k))) l = absurd (omega (arith, l))

    differ : AllPairs (λ (i j : ℕ). i ≢ j) (0 ∷ 1 ∷ 2 ∷ [])
    differ zero zero d l m e = omega (arith, l)
    differ zero (suc zero) d l m e = omega (arith, e)
    differ zero (suc (suc zero)) d l m e = omega (arith, e)
    differ (suc zero) (suc zero) d l m e = omega (arith, l)
    differ (suc zero) (suc (suc zero)) d l m e = omega (arith, e)
    differ (suc i) zero d l m e = omega (arith, l)
    differ (suc (suc i)) (suc zero) d l m e = omega (arith, l)
    differ (suc (suc i)) (suc (suc zero)) d l m e = omega (arith, l)
    differ i (suc (suc (suc j))) d l m e = omega (arith, m)

    rise : AllPairs (AppearsBefore signature sum_of_successor) (0 ∷ 1 ∷ 2 ∷ [])
    rise zero zero d l m = absurd (omega (arith, l))
    rise zero (suc zero) d l m = record { one = 13; other = 16; first_one = refl; first_other = refl; before = omega arith }
    rise zero (suc (suc zero)) d l m = record { one = 13; other = 21; first_one = refl; first_other = refl; before = omega arith }
    rise (suc zero) (suc zero) d l m = absurd (omega (arith, l))
    rise (suc zero) (suc (suc zero)) d l m = record { one = 16; other = 21; first_one = refl; first_other = refl; before = omega arith }
    rise (suc i) zero d l m = absurd (omega (arith, l))
    rise (suc (suc i)) (suc zero) d l m = absurd (omega (arith, l))
    rise (suc (suc i)) (suc (suc zero)) d l m = absurd (omega (arith, l))
    rise i (suc (suc (suc j))) d l m = absurd (omega (arith, m))

pub conclusion_order : IsByAppearance signature conclusion_first 2 (1 ∷ 0 ∷ [])
conclusion_order = record { numbers = below; all = each; once = differ; by_bytes = rise }
  where
    below : (i : ℕ) → Contains (1 ∷ 0 ∷ []) i → i < 2
    below i (zero, l, e) = omega (arith, e)
    below i (suc zero, l, e) = omega (arith, e)
    below i (suc (suc k), l, e) = absurd (omega (arith, l))

    each : (i : ℕ) → i < 2 → Contains (1 ∷ 0 ∷ []) i
    each zero l = (1, omega arith, refl)
    each (suc zero) l = (0, omega arith, refl)
    each (suc (suc k)) l = absurd (omega (arith, l))

    differ : AllPairs (λ (i j : ℕ). i ≢ j) (1 ∷ 0 ∷ [])
    differ zero zero d l m e = omega (arith, l)
    differ zero (suc zero) d l m e = omega (arith, e)
    differ (suc i) zero d l m e = omega (arith, l)
    differ (suc i) (suc zero) d l m e = omega (arith, l)
    differ i (suc (suc j)) d l m e = omega (arith, m)

    rise : AllPairs (AppearsBefore signature conclusion_first) (1 ∷ 0 ∷ [])
    rise zero zero d l m = absurd (omega (arith, l))
    rise zero (suc zero) d l m = record { one = 10; other = 20; first_one = refl; first_other = refl; before = omega arith }
    rise (suc i) zero d l m = absurd (omega (arith, l))
    rise (suc i) (suc zero) d l m = absurd (omega (arith, l))
    rise i (suc (suc j)) d l m = absurd (omega (arith, m))
