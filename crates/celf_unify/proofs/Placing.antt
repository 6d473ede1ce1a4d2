-- Loops over places.
use Rattle.std.specs.Prelude.{ℕ, zero, suc, ◌+◌, ◌<◌, ◌≤◌, ◌≡◌, Bool, true, false, List, [], ◌∷◌, ◌++◌, length, map, drop, get_or, refl}
use Rattle.std.proofs.Common.{ap, sym, ◌∙◌, arith, append_assoc, slice_index_or, add-one}
use Rattle.std.proofs.lemmas.List.{append-nil}
use Rattle.std.proofs.Math.ListN.{drop_of_length-le}
use Rattle.clf_simple.proofs.Lists.{from_place}
use Rattle.pattern_laws.specs.Patterns.{Place, masked, mask_at}
use Rattle.celf_constraints.specs.declared.places.Place.{Place as Declared}
use Rattle.celf_constraints.specs.Reading.{plain_place}

-- none are left
pub all_passed : (xs : List Declared) (i : ℕ) → (i < length xs → ⊥) → map plain_place (drop i xs) ≡ []
all_passed xs i h = ap (map plain_place) (drop_of_length-le xs (at_most h))
  where
    at_most : (i < length xs → ⊥) → length xs ≤ i
    at_most h = grind arith

-- ---- masks

pub mask_drop : (i : ℕ) (bs : List Bool) → mask_at (drop i bs) 0 ≡ mask_at bs i
mask_drop zero bs = refl
mask_drop (suc i) [] = refl
mask_drop (suc i) (b ∷ bs) = mask_drop i bs

tail_from : (i : ℕ) (bs cs : List Bool) (b : Bool) → drop i bs ≡ b ∷ cs → drop (suc i) bs ≡ cs
tail_from zero [] cs b e = absurd (cc)
tail_from zero (c ∷ bs) cs b e = tails e
  where
    tails : c ∷ bs ≡ b ∷ cs → bs ≡ cs
    tails e = cc
tail_from (suc i) [] cs b e = absurd (cc)
tail_from (suc i) (c ∷ bs) cs b e = tail_from i bs cs b e

over_from : (i : ℕ) (bs : List Bool) → drop i bs ≡ [] → drop (suc i) bs ≡ []
over_from zero [] e = refl
over_from zero (c ∷ bs) e = absurd (cc)
over_from (suc i) [] e = refl
over_from (suc i) (c ∷ bs) e = over_from i bs e

mask_tail : (i : ℕ) (bs cs : List Bool) (b : Bool) → drop i bs ≡ b ∷ cs → drop (i + 1) bs ≡ cs
mask_tail i bs cs b e = ap (λ j. drop j bs) (add-one i) ∙ tail_from i bs cs b e

mask_over : (i : ℕ) (bs : List Bool) → drop i bs ≡ [] → drop (i + 1) bs ≡ []
mask_over i bs e = ap (λ j. drop j bs) (add-one i) ∙ over_from i bs e

pub masked_kept : (i : ℕ) (bs : List Bool) (xs : List Declared) (x : Declared) (ks more ws : List Place) → i < length xs → x ≡ get_or xs i x → mask_at bs i ≡ true → more ≡ ks ++ ((plain_place x).0, (plain_place x).1, i) ∷ []
    → ks ++ masked i (drop i bs) (map plain_place (drop i xs)) ≡ ws → more ++ masked (i + 1) (drop (i + 1) bs) (map plain_place (drop (i + 1) xs)) ≡ ws
masked_kept i bs xs x ks more ws l e f g h =
    let rest = map plain_place (drop (i + 1) xs) in
    ap (λ m. m ++ masked (i + 1) (drop (i + 1) bs) rest) g ∙ append_assoc ks (((plain_place x).0, (plain_place x).1, i) ∷ []) (masked (i + 1) (drop (i + 1) bs) rest)
    ∙ ap (λ m. ks ++ m) (of (drop i bs) refl (mask_drop i bs ∙ f)) ∙ ap (λ ps. ks ++ masked i (drop i bs) ps) (sym (from_place plain_place xs i x l e)) ∙ h
  where
    of : (cs : List Bool) → drop i bs ≡ cs → mask_at cs 0 ≡ true → ((plain_place x).0, (plain_place x).1, i) ∷ masked (i + 1) (drop (i + 1) bs) (map plain_place (drop (i + 1) xs)) ≡ masked i cs (plain_place x ∷ map plain_place (drop (i + 1) xs))
    of [] q u = absurd (cc)
    of (true ∷ cs) q u = ap (λ bs. ((plain_place x).0, (plain_place x).1, i) ∷ masked (i + 1) bs (map plain_place (drop (i + 1) xs))) (mask_tail i bs cs true q) ∙ ap (λ j. ((plain_place x).0, (plain_place x).1, i) ∷ masked j cs (map plain_place (drop (i + 1) xs))) (omega arith)
    of (false ∷ cs) q u = absurd (cc)

masked_left_out : (i : ℕ) (bs : List Bool) (xs : List Declared) (x : Declared) (ks ws : List Place) → i < length xs → x ≡ get_or xs i x → mask_at bs i ≡ false
    → ks ++ masked i (drop i bs) (map plain_place (drop i xs)) ≡ ws → ks ++ masked (i + 1) (drop (i + 1) bs) (map plain_place (drop (i + 1) xs)) ≡ ws
masked_left_out i bs xs x ks ws l e f h = ap (λ m. ks ++ m) (of (drop i bs) refl (mask_drop i bs ∙ f)) ∙ ap (λ ps. ks ++ masked i (drop i bs) ps) (sym (from_place plain_place xs i x l e)) ∙ h
  where
    of : (cs : List Bool) → drop i bs ≡ cs → mask_at cs 0 ≡ false → masked (i + 1) (drop (i + 1) bs) (map plain_place (drop (i + 1) xs)) ≡ masked i cs (plain_place x ∷ map plain_place (drop (i + 1) xs))
    of [] q u = ap (λ bs. masked (i + 1) bs (map plain_place (drop (i + 1) xs))) (mask_over i bs q)
    of (true ∷ cs) q u = absurd (cc)
    of (false ∷ cs) q u = ap (λ bs. masked (i + 1) bs (map plain_place (drop (i + 1) xs))) (mask_tail i bs cs false q) ∙ ap (λ j. masked j cs (map plain_place (drop (i + 1) xs))) (omega arith)

masked_none : (i : ℕ) (bs : List Bool) → masked i bs [] ≡ []
masked_none i [] = refl
masked_none i (b ∷ bs) = refl

place_there : (xs : List Declared) (i : ℕ) → i < length xs → (x : Declared) × (x ≡ get_or xs i x)
place_there [] i l = absurd (omega arith)
place_there (x ∷ xs) zero l = (x, refl)
place_there (x ∷ xs) (suc i) l = place_there xs i (omega arith)

-- the same, whatever place is left out
pub masked_without : (i : ℕ) (bs : List Bool) (xs : List Declared) (ks ws : List Place) → i < length xs → mask_at bs i ≡ false
    → ks ++ masked i (drop i bs) (map plain_place (drop i xs)) ≡ ws → ks ++ masked (i + 1) (drop (i + 1) bs) (map plain_place (drop (i + 1) xs)) ≡ ws
masked_without i bs xs ks ws l f h = let (x, e) = place_there xs i l in masked_left_out i bs xs x ks ws l e f h

pub masked_end : (i : ℕ) (bs : List Bool) (xs : List Declared) (ks ws : List Place) → (i < length xs → ⊥) → ks ++ masked i (drop i bs) (map plain_place (drop i xs)) ≡ ws → ks ≡ ws
masked_end i bs xs ks ws l h = sym (append-nil ks) ∙ ap (λ m. ks ++ m) (sym (masked_none i (drop i bs))) ∙ ap (λ ps. ks ++ masked i (drop i bs) ps) (sym (all_passed xs i l)) ∙ h

-- a mask in memory
pub mask_within : (bs : List Bool) (i : ℕ) → i < length bs → slice_index_or bs i false ≡ mask_at bs i
mask_within [] i l = absurd (omega arith)
mask_within (b ∷ bs) zero l = refl
mask_within (b ∷ bs) (suc i) l = mask_within bs i (omega arith)

pub mask_outside : (bs : List Bool) (i : ℕ) → length bs ≤ i → false ≡ mask_at bs i
mask_outside [] i l = refl
mask_outside (b ∷ bs) zero l = absurd (omega arith)
mask_outside (b ∷ bs) (suc i) l = mask_outside bs i (omega arith)
