-- Tests and bindings of one name more of a list.
use Rattle.std.specs.Prelude.{ℕ, ◌+◌, ◌≡◌, ◌<◌, Bool, true, false, ◌||◌, List, [], ◌∷◌, ◌++◌, map, length, take, get_or, refl}
use Rattle.std.specs.List.{flat_map, list_any}
use Rattle.std.proofs.Common.{◌≤◌, ap, sym, ◌∙◌, append-nil, append_assoc}
use Rattle.std.proofs.lemmas.List.Folds.{list_any-append, list_any_at}
use Rattle.std.proofs.lemmas.Grind.{flat_map-append}
use Rattle.std.proofs.lemmas.List.{take_more, take_all, map-append, take-map}

-- a test of one name more
pub any_next : {W X : Type 0} (tree : W → X) (p : X → Bool) (ws : List W) (i : ℕ) (w : W) → i < length ws → w ≡ get_or ws i w → list_any p (map tree (take i ws)) ≡ false → p (tree w) ≡ false → list_any p (map tree (take (i + 1) ws)) ≡ false
any_next tree p ws i w h e n q = rw (take_more ws i w h, ← e, map-append tree (take i ws) (w ∷ []), list_any-append p (map tree (take i ws)) (tree w ∷ []), n, q) refl

any-map : {W X : Type 0} (tree : W → X) (p : X → Bool) (ws : List W) → list_any p (map tree ws) ≡ list_any (λ w. p (tree w)) ws
any-map tree p [] = refl
any-map tree p (w ∷ ws) = ap (λ b. p (tree w) || b) (any-map tree p ws)

pub any_here : {W X : Type 0} (tree : W → X) (p : X → Bool) (ws : List W) (i : ℕ) (w : W) → i < length ws → w ≡ get_or ws i w → p (tree w) ≡ true → list_any p (map tree ws) ≡ true
any_here tree p ws i w h e q = any-map tree p ws ∙ list_any_at (λ x. p (tree x)) ws i w h (rw (← e) q)

-- the names that are left are the oldest ones
pub kept_alone : {W X : Type 0} (tree : W → X) (n : ℕ) (left ws : List W) → length left ≤ n → take n left ≡ take n ws → map tree left ≡ take n (map tree ws)
kept_alone tree n left ws h e = sym (take-map tree n ws ∙ ap (map tree) (sym e) ∙ ap (map tree) (take_all n left h))

flat_next : {X : Type 0} (f : X → List (List ℕ)) (xs : List X) (i : ℕ) (x : X) → i < length xs → x ≡ get_or xs i x → flat_map f (take (i + 1) xs) ≡ flat_map f (take i xs) ++ f x
flat_next f xs i x h e = rw (take_more xs i x h, ← e, flat_map-append f (take i xs) (x ∷ []), append-nil (f x)) refl

-- The names of one part more are bound.
pub binds_next : {X : Type 0} (f : X → List (List ℕ)) (old now later : List (List ℕ)) (xs : List X) (i : ℕ) (x : X) → i < length xs → x ≡ get_or xs i x → now ≡ old ++ flat_map f (take i xs) → later ≡ now ++ f x → later ≡ old ++ flat_map f (take (i + 1) xs)
binds_next f old now later xs i x h e v l = l ∙ ap (λ ns. ns ++ f x) v ∙ append_assoc old (flat_map f (take i xs)) (f x) ∙ ap (λ ns. old ++ ns) (sym (flat_next f xs i x h e))
