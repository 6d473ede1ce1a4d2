-- The earliest of lists joined end to end.
use Rattle.std.specs.Prelude.{ℕ, ◌+◌, ◌≡◌, ◌<◌, List, [], ◌∷◌, ◌++◌, map, length, take, get_or, Option, None, Some, Bool, true, false, nat_lt, refl}
use Rattle.std.specs.List.{flat_map}
use Rattle.std.proofs.Common.{ap, sym, ◌∙◌, arith, append-nil}
use Rattle.std.proofs.lemmas.Bool.Decides.{nat_tests}
use Rattle.std.proofs.lemmas.Grind.{flat_map-append}
use Rattle.std.proofs.lemmas.List.{take_more, map-append}
use Rattle.celf_sugar.specs.Earliest.{sooner, earliest}

chosen : {X : Type 0} (place : X → ℕ) (x y z : X) (p q r : Bool) → nat_lt (place y) (place x) ≡ p → nat_lt (place z) (place y) ≡ q → nat_lt (place z) (place x) ≡ r → sooner place (sooner place (Some x) (Some y)) (Some z) ≡ sooner place (Some x) (sooner place (Some y) (Some z))
chosen place x y z true true true e f g = simp (e, f, g)
chosen place x y z true true false e f g = absurd (grind (arith, nat_tests))
chosen place x y z true false true e f g = simp (e, f, g)
chosen place x y z true false false e f g = simp (e, f, g)
chosen place x y z false true true e f g = simp (e, f, g)
chosen place x y z false true false e f g = simp (e, f, g)
chosen place x y z false false true e f g = absurd (grind (arith, nat_tests))
chosen place x y z false false false e f g = simp (e, f, g)

pub sooner_assoc : {X : Type 0} (place : X → ℕ) (x y z : Option X) → sooner place (sooner place x y) z ≡ sooner place x (sooner place y z)
sooner_assoc place None y z = refl
sooner_assoc place (Some x) None z = refl
sooner_assoc {X = X} place (Some x) (Some y) None = none_last (sooner place (Some x) (Some y))
  where
    none_last : (v : Option X) → sooner place v None ≡ v
    none_last None = refl
    none_last (Some w) = refl
sooner_assoc place (Some x) (Some y) (Some z) = chosen place x y z _ _ _ refl refl refl

pub earliest-append : {X : Type 0} (place : X → ℕ) (xs ys : List X) → earliest place (xs ++ ys) ≡ sooner place (earliest place xs) (earliest place ys)
earliest-append place [] ys = refl
earliest-append place (x ∷ xs) ys = ap (sooner place (Some x)) (earliest-append place xs ys) ∙ sym (sooner_assoc place (Some x) (earliest place xs) (earliest place ys))

pub ruleset earliest_laws = (earliest-append, sooner_assoc)

-- the earliest of the things of the parts of a list, with one part more
pub one_more : {W X Y : Type 0} (place : Y → ℕ) (tree : W → X) (f : X → List Y) (ws : List W) (i : ℕ) (w : W) → i < length ws → w ≡ get_or ws i w → earliest place (flat_map f (map tree (take (i + 1) ws))) ≡ sooner place (earliest place (flat_map f (map tree (take i ws)))) (earliest place (f (tree w)))
one_more place tree f ws i w h e = rw (take_more ws i w h, ← e, map-append tree (take i ws) (w ∷ []), flat_map-append f (map tree (take i ws)) (tree w ∷ []), append-nil (f (tree w)), earliest-append place (flat_map f (map tree (take i ws))) (f (tree w)))
